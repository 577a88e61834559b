use Rattle.std.proofs.Common.{◌≡◌, ◌≢◌, ◌+◌, ◌≤◌, ◌<◌, ℕ, refl, ap, sym, ◌∙◌, arith}
use borrow.Author.Tests.{eqb-false, eqb-true, not-true, not-false}
use Rattle.reservation_tree.specs.Tracker.{Tracker, depth_of}
use Rattle.reservation_tree.specs.Change.{meeting, ancestor_of}
use Rattle.reservation_tree.proofs.Climbs.{met, first_goes, second_goes}
use Rattle.reservation_tree.proofs.tree.Tree.ancestor.Goals as goal

pub ways-init : goal.ways-init
unfolding ancestor_of
ways-init c = record { first = c.requires.live; second = c.requires.dst_live; rest = refl }

pub ways-preserved-then-row : goal.ways-preserved-then-row
ways-preserved-then-row c =
    let apart : c.ways.a ≢ c.ways.b = eqb-false c.ways.a c.ways.b (not-true _ (sym c.ne.ensures ∙ c.ways-test.true)) in
    let of_a : depth_of c.args.self.now.trackers c.ways.a ≡ c.row.result.depth = ap (λ (x : Tracker). x.depth) c.row.ensures.says in
    let of_b : depth_of c.args.self.now.trackers c.ways.b ≡ c.row-in-ways.result.depth = ap (λ (x : Tracker). x.depth) c.row-in-ways.ensures.says in
    let low : depth_of c.args.self.now.trackers c.ways.b ≤ depth_of c.args.self.now.trackers c.ways.a = omega (arith, of_a, of_b, c.if-row.true) in
    record {
      first = c.above-a.ensures.live;
      second = c.ways.invariant.second;
      rest = c.ways.invariant.rest
          ∙ first_goes c.args.self.now.trackers c.law_fits.ensures.tree c.ways.a c.ways.b c.ways.invariant.first c.ways.invariant.second apart low
          ∙ ap (λ (p : ℕ). meeting c.args.self.now.trackers (depth_of c.args.self.now.trackers p + depth_of c.args.self.now.trackers c.ways.b) p c.ways.b) (sym c.above-a.ensures.above);
    }

pub ways-preserved : goal.ways-preserved
ways-preserved c =
    let apart : c.ways.a ≢ c.ways.b = eqb-false c.ways.a c.ways.b (not-true _ (sym c.ne.ensures ∙ c.ways-test.true)) in
    let of_a : depth_of c.args.self.now.trackers c.ways.a ≡ c.row.result.depth = ap (λ (x : Tracker). x.depth) c.row.ensures.says in
    let of_b : depth_of c.args.self.now.trackers c.ways.b ≡ c.row-in-ways.result.depth = ap (λ (x : Tracker). x.depth) c.row-in-ways.ensures.says in
    let low : depth_of c.args.self.now.trackers c.ways.a < depth_of c.args.self.now.trackers c.ways.b = omega (arith, of_a, of_b, c.if-row.false) in
    record {
      first = c.ways.invariant.first;
      second = c.above-b.ensures.live;
      rest = c.ways.invariant.rest
          ∙ second_goes c.args.self.now.trackers c.law_fits.ensures.tree c.ways.a c.ways.b c.ways.invariant.first c.ways.invariant.second apart low
          ∙ ap (λ (p : ℕ). meeting c.args.self.now.trackers (depth_of c.args.self.now.trackers c.ways.a + depth_of c.args.self.now.trackers p) c.ways.a p) (sym c.above-b.ensures.above);
    }

pub returns-clause-value : goal.returns-clause-value
returns-clause-value c =
    let same : c.ways.a ≡ c.ways.b = eqb-true c.ways.a c.ways.b (not-false _ (sym c.ne.ensures ∙ c.ways-test.false)) in
    sym (c.ways.invariant.rest ∙ met c.args.self.now.trackers _ c.ways.a c.ways.b same)
