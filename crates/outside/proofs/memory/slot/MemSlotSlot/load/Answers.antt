use Rattle.std.proofs.Common.{◌≡◌, ℕ, List, Some, option_map, sym, ap, ◌∙◌, subst, inr, arith, length}
use Rattle.std.specs.Prelude.{Contains}
use Rattle.outside.specs.InMemory.{SlotState, further_of, lie_at}
use Rattle.outside.proofs.Lies.{lie_listed}
use Rattle.outside.proofs.memory.slot.MemSlotSlot.load.Goals as goal

pub returns-in-Some-clause-ok : goal.returns-in-Some-clause-ok
returns-in-Some-clause-ok c =
    let is : lie_at c.args.self.now.plan.calls (length c.args.block.now) c.args.self.now.lies ≡ Some c.in-Some.lie.now = sym c.lie.ensures.value ∙ ap (option_map (λ l. l.now)) c.in-Some.is in
    inr (
      subst (λ (b : List ℕ). Contains (further_of c.args.self.now.lies) b) (sym c.copy_from_slice.ensures.after) (lie_listed _ _ c.args.self.now.lies c.in-Some.lie.now is),
      λ below. (let same = ap (λ (s : SlotState). s.strays) c.self.view_is in omega (arith, below, same, c.saturating_add-self-inside.ensures)),
    )
