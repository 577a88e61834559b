use Rattle.std.proofs.Common.{◌-◌, ◌≤◌}
use Rattle.tuple_stream.specs.Touches.{slots_with}
use Rattle.partition_stack.specs.Emitting.{room_with}
use Rattle.partition_stack.specs.Slots.{KeepSlots}
use Rattle.partition_stack.proofs.ReadFrames.{Stays}
use Rattle.join_op.specs.Slots.{SameMost}
use Rattle.join_op.specs.Holding.{held_rows}
use Rattle.join_op.proofs.ChunkJoins.{HasJoined}
use Rattle.join_op.proofs.meeting.join_chunk.Given as goal

abbrev pub invariant-lefts : goal.invariant-lefts
invariant-lefts g l = record {
  stays : Stays l.fn.c l.fn.reads l.reads (g.St.Store.holds l.fn.store) (g.St.Store.holds l.store) (g.St.Store.signs l.fn.store) (g.St.Store.signs l.store) (g.E.Emit.admits l.fn.emit) (g.E.Emit.admits l.emit) (g.E.Emit.client l.fn.emit) (g.E.Emit.client l.emit) (g.E.Emit.faults l.fn.emit) (g.E.Emit.faults l.emit) (g.E.Emit.creates l.fn.emit) (g.E.Emit.creates l.emit) (g.E.Emit.took l.fn.emit (g.St.Store.holds l.fn.store)) (g.E.Emit.took l.emit (g.St.Store.holds l.store));
  room : room_with l.fn.c.tracker (g.E.Emit.client l.fn.emit) (g.St.Store.holds l.fn.store) ≤ room_with l.fn.c.tracker (g.E.Emit.client l.fn.emit) (g.St.Store.holds l.store);
  slots : KeepSlots (g.E.Emit.client l.fn.emit) (slots_with l.fn.reads (g.St.Store.holds l.fn.store)) (slots_with l.reads (g.St.Store.holds l.store)) (g.E.Emit.slots l.fn.emit (g.St.Store.holds l.fn.store)) (g.E.Emit.slots l.emit (g.St.Store.holds l.store));
  most : SameMost (g.E.Emit.slots_for l.fn.emit) (g.E.Emit.slots_for l.emit);
  joined : HasJoined l.fn.turned l.fn.shape (held_rows l.fn.held) l.fn.reads l.reads (g.St.Store.holds l.fn.store) (g.St.Store.holds l.store) (g.E.Emit.took l.fn.emit (g.St.Store.holds l.fn.store)) (g.E.Emit.took l.emit (g.St.Store.holds l.store)) l.place;
}

abbrev pub decreases-lefts : goal.decreases-lefts
decreases-lefts g l = l.reads.count - l.place.row
