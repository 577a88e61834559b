use Rattle.group_op.specs.Held.{state}
use Rattle.group_op.proofs.Absorbs.{Absorbs}
use Rattle.group_op.proofs.absorbing.absorb.Given as goal

abbrev pub invariant-loop-left : goal.invariant-loop-left
invariant-loop-left g l =
    Absorbs l.fn.c.tracker l.fn.shape l.fn.at l.fn.level l.divided l.left (state l.fn.table l.fn.parts (g.St.Store.holds l.fn.store) (g.St.Store.signs l.fn.store)) (state l.table l.parts (g.St.Store.holds l.store) (g.St.Store.signs l.store))

abbrev pub decreases-loop-left : goal.decreases-loop-left
decreases-loop-left g l = l.left
