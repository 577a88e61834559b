use Rattle.std.proofs.Common.{take}
use Rattle.partition_stack.specs.Slots.{KeepSlots}
use Rattle.group_op.specs.Emission.{Emitted, Stood}
use Rattle.group_op.specs.Keepings.{kept_in}
use Rattle.group_op.proofs.scanning.hand_on.Given as goal

abbrev pub invariant-loop-entry : goal.invariant-loop-entry
invariant-loop-entry g l = record {
  emitted : Emitted l.fn.shape (g.E.Emit.took l.fn.emit (g.St.Store.holds l.fn.store)) (g.E.Emit.took l.emit (g.St.Store.holds l.store)) (kept_in l.fn.shape (take l.entry-index l.fn.entries));
  stood : Stood (g.E.Emit.admits l.fn.emit) (g.E.Emit.admits l.emit) (g.E.Emit.client l.fn.emit) (g.E.Emit.client l.emit) (g.E.Emit.faults l.fn.emit) (g.E.Emit.faults l.emit) (g.E.Emit.creates l.fn.emit) (g.E.Emit.creates l.emit) (g.St.Store.holds l.fn.store) (g.St.Store.holds l.store) (g.St.Store.signs l.fn.store) (g.St.Store.signs l.store);
  slots : KeepSlots (g.E.Emit.client l.fn.emit) (g.St.Store.holds l.fn.store).free_slots (g.St.Store.holds l.store).free_slots (g.E.Emit.slots l.fn.emit (g.St.Store.holds l.fn.store)) (g.E.Emit.slots l.emit (g.St.Store.holds l.store));
}
