use Rattle.std.proofs.Common.{◌-◌}
use Rattle.tuple_stream.specs.Steps.{scene}
use Rattle.group_op.specs.Keepings.{key_in}
use Rattle.group_op.proofs.Readings.{IsKeeping}
use Rattle.group_op.proofs.scanning.keep_lowest.Given as goal

abbrev pub invariant-loop-spare : goal.invariant-loop-spare
invariant-loop-spare g l =
    IsKeeping l.fn.c.tracker l.fn.shape l.fn.room (key_in l.fn.last) l.entries.items l.place
    (scene l.fn.rows (g.St.Store.holds l.fn.store) (g.St.Store.signs l.fn.store)) (scene l.rows (g.St.Store.holds l.store) (g.St.Store.signs l.store))

abbrev pub decreases-loop-spare : goal.decreases-loop-spare
decreases-loop-spare g l = l.rows.count - l.place.row
