use Rattle.std.proofs.Common.{◌≡◌}
use Rattle.tuple_stream.specs.Touches.{Touches}
use Rattle.partition_stack.specs.Reading.{IsReadable}
use Rattle.tests_operators.proofs.tests.chunks.fill.Given as goal

abbrev pub invariant-loop-key : goal.invariant-loop-key
invariant-loop-key g l = record {
  readable : IsReadable l.fn.c l.rows (g.St.Store.holds l.store);
  touches : Touches l.fn.c.tracker l.fn.rows l.rows (g.St.Store.holds l.fn.store) (g.St.Store.holds l.store);
  sized : l.rows.page_blocks ≡ l.fn.rows.page_blocks;
}
