-- One step after another leaves what each of them leaves.
use Rattle.std.proofs.Common.{◌∙◌, ℕ}
use Rattle.store_api.specs.declared.shapes.Shape.{Shape}
pub use Rattle.partition_stack.proofs.Left.{leaves_both, others_then, same_then}
use Rattle.partition_stack.proofs.Slots.{slots_then}
use Rattle.group_op.specs.Held.{Leaves, State, streams_of}
use Rattle.group_op.specs.Putting.{HasFew, Works}
use Rattle.group_op.proofs.Paging.{made_then}

pub leaves_then : (t : ℕ) (a b c : State) → Leaves t a b → Leaves t b c → Leaves t a c
leaves_then t a b c one two = leaves_both t a.held b.held c.held a.signs b.signs c.signs one two

pub works_then : (t : ℕ) (shape : Shape) (a b c : State) → HasFew a c → Works t shape a b → Works t shape b c → Works t shape a c
works_then t shape a b c few first second =
    record {
      held = second.held;
      entries = second.entries;
      leaves = leaves_then t a b c first.leaves second.leaves;
      blocks = second.blocks ∙ first.blocks;
      levels = second.levels ∙ first.levels;
      many = second.many ∙ first.many;
      slots = slots_then a.parts.page_blocks b.parts.page_blocks (streams_of a) (streams_of b) (streams_of c) first.blocks first.slots second.slots;
      made = made_then (streams_of a) (streams_of b) (streams_of c) first.made second.made;
      few = few;
    }
