use Rattle.partition_stack.specs.Stack.{over}
use Rattle.group_op.proofs.NodeLists.{left_from}
use Rattle.group_op.proofs.Walking.{HasWalked}
use Rattle.group_op.proofs.flushing.flush.Given as goal

abbrev pub invariant-loop-next : goal.invariant-loop-next
invariant-loop-next g l =
    HasWalked l.fn.c.tracker l.fn.shape l.fn.fan.level l.fn.fan.base l.fn.fan.from l.fn.table.nodes l.next (over l.fn.parts (g.St.Store.holds l.fn.store) (g.St.Store.signs l.fn.store)) l.fn.parts l.parts (g.St.Store.holds l.store) (g.St.Store.signs l.store)

abbrev pub decreases-loop-next : goal.decreases-loop-next
decreases-loop-next g l = left_from l.fn.table.nodes l.next
