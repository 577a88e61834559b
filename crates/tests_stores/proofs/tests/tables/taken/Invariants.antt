use Rattle.std.proofs.Common.{◌≡◌}
use Rattle.bucket_table.specs.Tables.{with_nodes}
use Rattle.tests_stores.proofs.tests.tables.taken.Given as goal

abbrev pub invariant-loop-step : goal.invariant-loop-step
invariant-loop-step l = l.table ≡ with_nodes l.table.nodes l.initial.table
