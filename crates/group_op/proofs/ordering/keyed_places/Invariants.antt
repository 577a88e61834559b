use Rattle.group_op.specs.Stored.{key_at}
use Rattle.group_op.proofs.NodeLists.{left_from}
use Rattle.group_op.proofs.Gathered.{HasGone}
use Rattle.group_op.proofs.ordering.keyed_places.Given as goal

abbrev pub invariant-loop-next : goal.invariant-loop-next
invariant-loop-next l = HasGone (λ n. (key_at l.shape n.row, n.place)) l.table.nodes l.next l.keyed.items

abbrev pub decreases-loop-next : goal.decreases-loop-next
decreases-loop-next l = left_from l.table.nodes l.next
