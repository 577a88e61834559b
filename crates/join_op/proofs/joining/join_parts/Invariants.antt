use Rattle.std.proofs.Common.{◌≡◌}
use Rattle.partition_stack.specs.Slots.{KeepSlots}
use Rattle.partition_stack.specs.Stack.{weight}
use Rattle.join_op.specs.Slots.{SameMost}
use Rattle.join_op.specs.Joining.{both, slots_both}
use Rattle.join_op.proofs.Downward.{HasGoneDown}
use Rattle.join_op.proofs.joining.join_parts.Given as goal

abbrev pub invariant-down : goal.invariant-down
invariant-down g l = record {
  gone : HasGoneDown (l.emit ≡ l.fn.emit) l.fn.c l.fn.shape (g.E.Emit.admits l.fn.emit) (g.E.Emit.admits l.emit) (g.E.Emit.client l.fn.emit) (g.E.Emit.client l.emit) (g.E.Emit.faults l.fn.emit) (g.E.Emit.faults l.emit) (g.E.Emit.creates l.fn.emit) (g.E.Emit.creates l.emit) (g.E.Emit.took l.fn.emit (g.St.Store.holds l.fn.store)) (g.E.Emit.took l.emit (g.St.Store.holds l.store))
      (both l.fn.left l.fn.right (g.St.Store.holds l.fn.store) (g.St.Store.signs l.fn.store)) (both l.left l.right (g.St.Store.holds l.store) (g.St.Store.signs l.store));
  most : SameMost (g.E.Emit.slots_for l.fn.emit) (g.E.Emit.slots_for l.emit);
  slots : KeepSlots (g.E.Emit.client l.fn.emit) (slots_both (both l.fn.left l.fn.right (g.St.Store.holds l.fn.store) (g.St.Store.signs l.fn.store))) (slots_both (both l.left l.right (g.St.Store.holds l.store) (g.St.Store.signs l.store))) (g.E.Emit.slots l.fn.emit (g.St.Store.holds l.fn.store)) (g.E.Emit.slots l.emit (g.St.Store.holds l.store));
}

abbrev pub decreases-down : goal.decreases-down
decreases-down g l = weight l.left
