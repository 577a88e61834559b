use Rattle.std.proofs.Common.{◌≡◌, ◌+◌, ◌-◌, ◌<◌, ℕ, ap, sym, ◌∙◌, subst, arith}
use Rattle.reservation_tree.specs.Tracker.{Trackers, IsLive, parent_of}
use Rattle.reservation_tree.specs.Tree.{TreeState, charge_of, with_trackers}
use Rattle.reservation_tree.specs.Change.{fallen, lower}
use Rattle.reservation_tree.proofs.Climbs.{CanFall, fall_step, fallen_is}
use Rattle.reservation_tree.proofs.tree.Tree.fall.Goals as goal

pub way-init : goal.way-init
way-init c =
    let all : c.args.levels ≡ c.args.levels - 0 = omega arith in
    record {
      live = c.requires.live;
      far = omega (arith, c.requires.levels);
      spare = λ _. c.requires.unused;
      rest = ap (λ (n : ℕ). with_trackers (fallen n c.args.bytes c.args.t c.args.self.now.trackers) c.args.self.now) all;
    }

pub lower-requires-clause-spare : goal.lower-requires-clause-spare
lower-requires-clause-spare c = c.way.invariant.spare c.way-test.true

pub way-preserved : goal.way-preserved
way-preserved c =
    let ts : Trackers = c.way.self.trackers in
    let some : 0 < c.args.levels - c.way._level = omega (arith, c.way-test.true) in
    let fewer : (c.args.levels - c.way._level) - 1 ≡ c.args.levels - (c.way._level + 1) = omega arith in
    let named : parent_of ts c.way.at ≡ c.above-above.result = sym c.above-above.ensures.above in
    let next : CanFall (charge_of c.way.self) (lower c.args.bytes c.way.at ts) (parent_of ts c.way.at) (c.args.levels - (c.way._level + 1)) c.args.bytes =
    fall_step (charge_of c.way.self) ts c.law_fits.ensures.tree c.law_fits.ensures.fits c.way.at (c.args.levels - (c.way._level + 1)) c.args.bytes c.way.invariant.live
    (subst (λ (q : ℕ). IsLive ts q) (sym named) c.above-above.ensures.live) (omega (arith, c.way.invariant.far, some)) (c.way.invariant.spare c.way-test.true) in
    let here : CanFall (charge_of c.way.self) (lower c.args.bytes c.way.at ts) c.above-above.result (c.args.levels - (c.way._level + 1)) c.args.bytes =
    subst (λ (q : ℕ). CanFall (charge_of c.way.self) (lower c.args.bytes c.way.at ts) q (c.args.levels - (c.way._level + 1)) c.args.bytes) named next in
    let now : CanFall (charge_of c.lower.new.self) c.lower.new.self.trackers c.above-above.result (c.args.levels - (c.way._level + 1)) c.args.bytes =
    subst (λ (s : TreeState). CanFall (charge_of s) s.trackers c.above-above.result (c.args.levels - (c.way._level + 1)) c.args.bytes) (sym c.lower.ensures) here in
    record {
      live = now.live;
      far = now.far;
      spare = λ more. now.spare (omega (arith, more));
      rest = c.way.invariant.rest
          ∙ ap (λ (m : Trackers). with_trackers m c.way.self) (fallen_is ts (c.args.levels - c.way._level) c.args.bytes c.way.at some)
          ∙ ap (λ (n : ℕ). with_trackers (fallen n c.args.bytes (parent_of ts c.way.at) (lower c.args.bytes c.way.at ts)) c.way.self) fewer
          ∙ ap (λ (q : ℕ). with_trackers (fallen (c.args.levels - (c.way._level + 1)) c.args.bytes q (lower c.args.bytes c.way.at ts)) c.way.self) named
          ∙ ap (λ (s : TreeState). with_trackers (fallen (c.args.levels - (c.way._level + 1)) c.args.bytes c.above-above.result s.trackers) s) (sym c.lower.ensures);
    }

pub returns : goal.returns
returns c =
    let none_left : c.args.levels - c.way._level ≡ 0 = omega (arith, c.way-test.false) in
    sym (c.way.invariant.rest ∙ ap (λ (n : ℕ). with_trackers (fallen n c.args.bytes c.way.at c.way.self.trackers) c.way.self) none_left)
