use Rattle.std.proofs.Common.{◌≡◌, ℕ, List, true}
use Rattle.tuple_stream.specs.Streams.{HasRows}
use Rattle.group_op.specs.Keepings.{key_in}
use Rattle.group_op.specs.Scanning.{Shares}
use Rattle.partition_stack.proofs.ReadFrames.{Stays}
use Rattle.group_op.proofs.Scans.{HasHanded}
use Rattle.group_op.proofs.scanning.leaf_by_scan.Given as goal

abbrev pub invariant-loop-left : goal.invariant-loop-left
invariant-loop-left g l = record {
  stays : Stays l.fn.c l.fn.rows l.rows (g.St.Store.holds l.fn.store) (g.St.Store.holds l.store) (g.St.Store.signs l.fn.store) (g.St.Store.signs l.store) (g.E.Emit.admits l.fn.emit) (g.E.Emit.admits l.emit) (g.E.Emit.client l.fn.emit) (g.E.Emit.client l.emit) (g.E.Emit.faults l.fn.emit) (g.E.Emit.faults l.emit) (g.E.Emit.creates l.fn.emit) (g.E.Emit.creates l.emit) (g.E.Emit.took l.fn.emit (g.St.Store.holds l.fn.store)) (g.E.Emit.took l.emit (g.St.Store.holds l.store));
  shares : Shares l.fn.c.tracker (g.E.Emit.client l.fn.emit) (g.E.Emit.slots l.fn.emit (g.St.Store.holds l.fn.store)) (g.E.Emit.slots l.emit (g.St.Store.holds l.store)) l.fn.rows l.rows (g.St.Store.holds l.fn.store) (g.St.Store.holds l.store);
  handed : (rows : List (List ℕ)) → (g.St.Store.holds l.fn.store).told ≡ true → HasRows rows l.fn.rows (g.St.Store.holds l.fn.store) → HasHanded l.fn.shape (key_in l.last) l.left (g.E.Emit.took l.fn.emit (g.St.Store.holds l.fn.store)) (g.E.Emit.took l.emit (g.St.Store.holds l.store)) rows;
}

abbrev pub decreases-loop-left : goal.decreases-loop-left
decreases-loop-left g l = l.left
