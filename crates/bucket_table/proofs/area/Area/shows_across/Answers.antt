use Rattle.std.proofs.Common.{◌≡◌, ◌≤◌, ◌+◌, ◌-◌, ℕ, length, take, drop, ap, sym, ◌∙◌, arith}
use Rattle.std.proofs.lemmas.Bool.{false≢true}
use Rattle.bucket_table.proofs.Cuts.{shown_more, shown_part}
use Rattle.bucket_table.proofs.area.Area.shows_across.Goals as goal

pub returns-then-not-are_same : goal.returns-then-not-are_same
returns-then-not-are_same c =
    let bytes = c.args.self.now.bytes in
    let piece = c.args.bytes.now in
    let done = c.loop-done.done in
    let front = c.front-front in
    let n = length front.result.now in
    let inside : done + n ≤ length piece = omega (arith, c.loop-done.invariant.within, front.ensures.most, c.loop-done-test.true) in
    let width : done + n - done ≡ n = omega arith in (
      λ wrong. absurd (false≢true wrong),
      λ whole. absurd (false≢true (sym c.if-not-are_same.true ∙ c.are_same.ensures.1 (front.ensures.value ∙ shown_part piece bytes c.args.at done n inside whole ∙ ap (λ (k : ℕ). take k (drop done piece)) (sym width)))),
    )

pub loop-done-preserved : goal.loop-done-preserved
loop-done-preserved c =
    let done = c.loop-done.done in
    let front = c.front-front in
    let n = length front.result.now in
    let piece = c.args.bytes.now in
    let inside : done + n ≤ length piece = omega (arith, c.loop-done.invariant.within, front.ensures.most, c.loop-done-test.true) in
    let width : done + n - done ≡ n = omega arith in
    let same = c.are_same.ensures.0 c.if-not-are_same.false in
    record {
      within = inside;
      shown = shown_more piece c.args.self.now.bytes c.args.at done n c.loop-done.invariant.shown (sym front.ensures.value ∙ same ∙ ap (λ (k : ℕ). take k (drop done piece)) width);
    }
