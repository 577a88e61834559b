use Rattle.std.proofs.Common.{IfSome}
use Rattle.bucket_table.specs.Tables.{HasNode}
use Rattle.tests_stores.proofs.tests.tables.walked.Given as goal

abbrev pub invariant-loop-i : goal.invariant-loop-i
invariant-loop-i l = IfSome l.next (λ p. HasNode p l.table.nodes)
