use Rattle.std.proofs.Common.{ℕ, sym, ap, ◌∙◌, subst}
use Rattle.pool_model.specs.declared.call.Call.{Call}
use Rattle.pool_model.specs.declared.call.Call.TheVariants as call
use Rattle.pool_model.specs.Legal.{state_after}
use Rattle.trace_follow.specs.Wanting.{Wants}
use Rattle.trace_follow.proofs.Refusing.{create_wanted, alloc_wanted, return_wanted}
use Rattle.trace_follow.proofs.follower.Follower.wants.Goals as goal

pub returns-in-Create : goal.returns-in-Create
returns-in-Create c o h stands sound =
    subst (λ (k : Call). Wants (state_after o h) c.args.maker k c.wants_room.result) (ap (λ (n : ℕ). call.Create n c.in-Create.blocks) c.number.ensures ∙ sym c.in-Create.is)
    (create_wanted c.args.self.now (state_after o h) stands.shows sound c.args.maker c.number.result c.in-Create.blocks c.len_of.result c.wants_room.result c.len_of.ensures (c.wants_room.ensures (state_after o h) stands.shows))

pub returns-in-Alloc : goal.returns-in-Alloc
returns-in-Alloc c o h stands sound =
    subst (λ (k : Call). Wants (state_after o h) c.args.maker k c.wants_room-in-Alloc.result) (ap (λ (n : ℕ). call.Alloc n c.in-Alloc.blocks) c.number-in-Alloc.ensures ∙ sym c.in-Alloc.is)
    (alloc_wanted c.args.self.now (state_after o h) stands.shows sound c.args.maker c.number-in-Alloc.result c.in-Alloc.blocks c.len_of-in-Alloc.result c.wants_room-in-Alloc.result c.len_of-in-Alloc.ensures (c.wants_room-in-Alloc.ensures (state_after o h) stands.shows))

pub returns-in-GiveBack : goal.returns-in-GiveBack
returns-in-GiveBack c o h stands sound =
    subst (λ (k : Call). Wants (state_after o h) c.args.maker k c.wants_room-in-GiveBack.result) (ap (λ (n : ℕ). call.GiveBack n c.in-GiveBack.bytes) c.number-in-GiveBack.ensures ∙ sym c.in-GiveBack.is)
    (return_wanted (state_after o h) sound c.args.maker c.number-in-GiveBack.result c.in-GiveBack.bytes c.wants_room-in-GiveBack.result (c.wants_room-in-GiveBack.ensures (state_after o h) stands.shows))
