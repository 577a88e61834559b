use Rattle.partition_stack.specs.Slots.{KeepSlots}
use Rattle.join_op.specs.Chunks.{IsResting}
use Rattle.join_op.specs.Holding.{IsSameHeld}
use Rattle.join_op.specs.Slots.{SameMost, slots_of_two}
use Rattle.join_op.proofs.BothFrames.{StayBoth}
use Rattle.join_op.proofs.ChunkRounds.{HasMet}
use Rattle.join_op.proofs.PinsRows.{HasBegun}
use Rattle.join_op.proofs.meeting.join_held.Given as goal

abbrev pub invariant-rounds : goal.invariant-rounds
invariant-rounds g l = record {
  held : IsSameHeld l.fn.held l.held;
  stays : StayBoth l.fn.c l.fn.reads l.reads l.fn.builds l.builds (g.St.Store.holds l.fn.store) (g.St.Store.holds l.store) (g.St.Store.signs l.fn.store) (g.St.Store.signs l.store) (g.E.Emit.admits l.fn.emit) (g.E.Emit.admits l.emit) (g.E.Emit.client l.fn.emit) (g.E.Emit.client l.emit) (g.E.Emit.faults l.fn.emit) (g.E.Emit.faults l.emit) (g.E.Emit.creates l.fn.emit) (g.E.Emit.creates l.emit) (g.E.Emit.took l.fn.emit (g.St.Store.holds l.fn.store)) (g.E.Emit.took l.emit (g.St.Store.holds l.store));
  slots : KeepSlots (g.E.Emit.client l.fn.emit) (slots_of_two l.fn.reads l.fn.builds (g.St.Store.holds l.fn.store)) (slots_of_two l.reads l.builds (g.St.Store.holds l.store)) (g.E.Emit.slots l.fn.emit (g.St.Store.holds l.fn.store)) (g.E.Emit.slots l.emit (g.St.Store.holds l.store));
  most : SameMost (g.E.Emit.slots_for l.fn.emit) (g.E.Emit.slots_for l.emit);
  begun : IsResting l.fn.builds → HasBegun l.fn.builds l.builds l.place (g.St.Store.signs l.fn.store) (g.St.Store.signs l.store);
  met : HasMet l.fn.turned l.fn.shape l.fn.reads l.fn.builds l.builds (g.St.Store.holds l.fn.store) (g.St.Store.holds l.store) (g.E.Emit.took l.fn.emit (g.St.Store.holds l.fn.store)) (g.E.Emit.took l.emit (g.St.Store.holds l.store)) l.place l.waiting;
}

abbrev pub decreases-rounds : goal.decreases-rounds
decreases-rounds g l = l.waiting
