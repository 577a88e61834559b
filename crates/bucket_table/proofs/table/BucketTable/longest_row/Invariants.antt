use Rattle.std.proofs.Common.{◌-◌}
use Rattle.bucket_table.specs.Tables.{used_by}
use Rattle.bucket_table.proofs.Standing.{Passing}
use Rattle.bucket_table.proofs.table.BucketTable.longest_row.Given as goal

abbrev pub invariant-loop-node : goal.invariant-loop-node
invariant-loop-node l = Passing l.longest l.node l.self.nodes

abbrev pub decreases-loop-node : goal.decreases-loop-node
decreases-loop-node l = used_by l.self.nodes - l.node
