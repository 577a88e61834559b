use Rattle.tuple_stream.specs.Touches.{Touches}
use Rattle.group_op.specs.Scanning.{IsReadable}
use Rattle.tests_operators.proofs.tests.scans.fill.Given as goal

abbrev pub invariant-loop-key : goal.invariant-loop-key
invariant-loop-key g l = record {
  readable : IsReadable l.c l.rows (g.St.Store.holds l.store);
  touches : Touches l.c.tracker l.initial.rows l.rows (g.St.Store.holds l.initial.store) (g.St.Store.holds l.store);
}
