use Rattle.std.proofs.Common.{◌≡◌, ◌-◌, ℕ, None, refl, ap, sym, ◌∙◌}
use Rattle.reservation_tree.specs.Tree.{charge_of}
use Rattle.reservation_tree.specs.Change.{over, grow_refusal}
use Rattle.reservation_tree.specs.Answer.{answer}
use Rattle.reservation_tree.proofs.Strides.{under_by}
use Rattle.reservation_tree.proofs.Climbs.{none_answered, refusal_goes_on, refused_none}
use Rattle.reservation_tree.proofs.tree.Tree.check_growth.Goals as goal

pub way-init : goal.way-init
unfolding grow_refusal
way-init c = record { live = c.requires; rest = refl }

pub returns-then-growth-eq0 : goal.returns-then-growth-eq0
unfolding grow_refusal
returns-then-growth-eq0 c =
    let none : over c.args.self.now.trackers c.way.growth c.way.at ≡ None = none_answered _ (sym c.check_room.ensures ∙ c.in_ok-check_room.was) in
    ap answer (sym (c.way.invariant.rest
    ∙ refusal_goes_on c.args.self.now c.law_fits.ensures.tree c.way.at c.way.invariant.live c.row.result c.row.ensures c.in-Some.parent c.way.growth c.in-Some.is none
    ∙ refused_none (charge_of c.args.self.now) c.args.self.now.trackers _ c.in-Some.parent (sym (c.saturating_sub-growth.ensures ∙ ap (λ (n : ℕ). c.way.growth - n) c.unused.ensures) ∙ c.if-growth-eq0.true)))

pub way-preserved : goal.way-preserved
unfolding grow_refusal
way-preserved c =
    let none : over c.args.self.now.trackers c.way.growth c.way.at ≡ None = none_answered _ (sym c.check_room.ensures ∙ c.in_ok-check_room.was) in
    record {
      live = (under_by c.args.self.now c.way.at c.in-Some.parent c.row.result c.row.ensures c.in-Some.is).live;
      rest = c.way.invariant.rest
          ∙ refusal_goes_on c.args.self.now c.law_fits.ensures.tree c.way.at c.way.invariant.live c.row.result c.row.ensures c.in-Some.parent c.way.growth c.in-Some.is none
          ∙ ap (λ (n : ℕ). grow_refusal (charge_of c.args.self.now) n c.in-Some.parent c.args.self.now.trackers) (sym (c.saturating_sub-growth.ensures ∙ ap (λ (n : ℕ). c.way.growth - n) c.unused.ensures));
    }
