use Rattle.row_codec.specs.KeyInside.{path_number}
use Rattle.group_op.specs.Stored.{key_at}
use Rattle.group_op.proofs.NodeLists.{left_from}
use Rattle.group_op.proofs.Gathered.{HasGone}
use Rattle.group_op.proofs.ordering.pathed_places.Given as goal

abbrev pub invariant-loop-next : goal.invariant-loop-next
invariant-loop-next l = HasGone (λ n. (path_number (key_at l.shape n.row), n.place)) l.table.nodes l.next l.pathed.items

abbrev pub decreases-loop-next : goal.decreases-loop-next
decreases-loop-next l = left_from l.table.nodes l.next
