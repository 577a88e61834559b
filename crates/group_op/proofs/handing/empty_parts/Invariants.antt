use Rattle.std.proofs.Common.{ℕ, List}
use Rattle.tuple_stream.specs.Trails.{EnteredEvents}
use Rattle.partition_stack.specs.Stack.{weight}
use Rattle.group_op.specs.Finishing.{Advances, IsBetween, ServesBeside, Stacked, StandsStill}
use Rattle.group_op.specs.Held.{state}
use Rattle.group_op.specs.Pinning.{AreShallow, HasGoneOn}
use Rattle.group_op.proofs.handing.empty_parts.Given as goal

abbrev pub invariant-down : goal.invariant-down
invariant-down g l = record {
  between : IsBetween (state l.table l.parts (g.St.Store.holds l.store) (g.St.Store.signs l.store));
  serves : ServesBeside l.fn.c.tracker (g.E.Emit.client l.fn.emit) (g.E.Emit.slots l.fn.emit (g.St.Store.holds l.fn.store)) (g.E.Emit.slots l.emit (g.St.Store.holds l.store)) l.fn.shape (state l.fn.table l.fn.parts (g.St.Store.holds l.fn.store) (g.St.Store.signs l.fn.store)) (state l.table l.parts (g.St.Store.holds l.store) (g.St.Store.signs l.store));
  stands : StandsStill (g.E.Emit.admits l.fn.emit) (g.E.Emit.admits l.emit) (g.E.Emit.client l.fn.emit) (g.E.Emit.client l.emit) (g.E.Emit.faults l.fn.emit) (g.E.Emit.faults l.emit) (g.E.Emit.took l.fn.emit (g.St.Store.holds l.fn.store)) (g.E.Emit.took l.emit (g.St.Store.holds l.store)) (g.St.Store.holds l.store);
  first : AreShallow l.fn.parts.levels → EnteredEvents (HasGoneOn l.parts.levels) (g.St.Store.signs l.fn.store).trail (g.St.Store.signs l.store).trail;
  rows : (rows : ℕ → List (List ℕ)) → Stacked l.fn.shape rows (state l.fn.table l.fn.parts (g.St.Store.holds l.fn.store) (g.St.Store.signs l.fn.store))
      → Advances l.fn.shape (g.E.Emit.took l.fn.emit (g.St.Store.holds l.fn.store)) (g.E.Emit.took l.emit (g.St.Store.holds l.store)) (g.E.Emit.creates l.fn.emit) (g.E.Emit.creates l.emit) rows (state l.fn.table l.fn.parts (g.St.Store.holds l.fn.store) (g.St.Store.signs l.fn.store)) (state l.table l.parts (g.St.Store.holds l.store) (g.St.Store.signs l.store));
}

abbrev pub decreases-down : goal.decreases-down
decreases-down g l = weight l.parts
