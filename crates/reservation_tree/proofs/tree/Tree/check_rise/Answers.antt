use Rattle.std.proofs.Common.{◌≡◌, ◌+◌, ◌-◌, ◌<◌, ℕ, Option, None, ap, sym, ◌∙◌, arith, rules}
use Rattle.reservation_tree.specs.Tracker.{parent_of}
use Rattle.reservation_tree.specs.Change.{Refusal, over, or_else, risen_refusal}
use Rattle.reservation_tree.specs.Answer.{answer}
use Rattle.reservation_tree.proofs.Climbs.{none_answered, first_answers, risen_refusal_is}
use Rattle.reservation_tree.proofs.tree.Tree.check_rise.Goals as goal

pub way-init : goal.way-init
way-init c =
    let all : c.args.levels ≡ c.args.levels - 0 = omega arith in
    record { live = c.requires; rest = ap (λ (n : ℕ). risen_refusal n c.args.bytes c.args.t c.args.self.now.trackers) all }

pub way-preserved : goal.way-preserved
way-preserved c =
    let none : over c.args.self.now.trackers c.args.bytes c.way.at ≡ None = none_answered _ (sym c.check_room.ensures ∙ c.in_ok-check_room.was) in
    let some : 0 < c.args.levels - c.way._level = omega (arith, c.way-test.true) in
    let fewer : (c.args.levels - c.way._level) - 1 ≡ c.args.levels - (c.way._level + 1) = omega arith in
    record {
      live = c.above-at.ensures.live;
      rest = c.way.invariant.rest
          ∙ risen_refusal_is c.args.self.now.trackers (c.args.levels - c.way._level) c.args.bytes c.way.at some
          ∙ ap (λ (o : Option Refusal). or_else o (risen_refusal ((c.args.levels - c.way._level) - 1) c.args.bytes (parent_of c.args.self.now.trackers c.way.at) c.args.self.now.trackers)) none
          ∙ ap (λ (q : ℕ). risen_refusal ((c.args.levels - c.way._level) - 1) c.args.bytes q c.args.self.now.trackers) (sym c.above-at.ensures.above)
          ∙ ap (λ (n : ℕ). risen_refusal n c.args.bytes c.above-at.result c.args.self.now.trackers) fewer;
    }

pub returns-in_err-check_room : goal.returns-in_err-check_room
returns-in_err-check_room c =
    let some : 0 < c.args.levels - c.way._level = omega (arith, c.way-test.true) in
    let whole : risen_refusal c.args.levels c.args.bytes c.args.t c.args.self.now.trackers ≡ over c.args.self.now.trackers c.args.bytes c.way.at =
    c.way.invariant.rest
    ∙ risen_refusal_is c.args.self.now.trackers (c.args.levels - c.way._level) c.args.bytes c.way.at some
    ∙ first_answers _ _ _ (sym c.check_room.ensures ∙ c.in_err-check_room.was) in
    let same : c.from_residual.result ≡ c.check_room.result = search rules in
    same ∙ c.check_room.ensures ∙ ap answer (sym whole)

pub returns : goal.returns
returns c =
    let none_left : c.args.levels - c.way._level ≡ 0 = omega (arith, c.way-test.false) in
    ap answer (sym (c.way.invariant.rest ∙ ap (λ (n : ℕ). risen_refusal n c.args.bytes c.way.at c.args.self.now.trackers) none_left))
