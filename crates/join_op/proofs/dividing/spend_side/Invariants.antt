use Rattle.join_op.specs.Dividing.{side_of}
use Rattle.join_op.proofs.Dealing.{Deals, count_at}
use Rattle.join_op.proofs.dividing.spend_side.Given as goal

abbrev pub invariant-loop-left : goal.invariant-loop-left
invariant-loop-left g l =
    Deals l.fn.c.tracker (side_of l.fn.kinds l.fn.columns) l.fn.level l.fn.at (count_at l.fn.at l.fn.parts) l.left l.fn.parts l.parts l.fn.other (g.St.Store.holds l.fn.store) (g.St.Store.holds l.store) (g.St.Store.signs l.fn.store) (g.St.Store.signs l.store)

abbrev pub decreases-loop-left : goal.decreases-loop-left
decreases-loop-left g l = l.left
