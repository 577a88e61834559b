use Rattle.std.proofs.Common.{◌%◌, length}
use Rattle.bucket_table.proofs.Shown.{Leaves, rest_from}
use Rattle.bucket_table.proofs.table.BucketTable.find_row.Given as goal

abbrev pub invariant-loop-next : goal.invariant-loop-next
invariant-loop-next l = Leaves (l.hash % l.self.heads) l.at l.bytes l.next l.self.nodes l.self.nodes

abbrev pub decreases-loop-next : goal.decreases-loop-next
decreases-loop-next l = length (rest_from l.next l.self.nodes)
