use Rattle.std.proofs.Common.{◌-◌}
use Rattle.tuple_stream.specs.Steps.{scene}
use Rattle.join_op.specs.Holding.{held_side}
use Rattle.join_op.proofs.Fillings.{IsFilling}
use Rattle.join_op.proofs.holding.fill_table.Given as goal

abbrev pub invariant-more : goal.invariant-more
invariant-more g l =
    IsFilling l.fn.c.tracker (held_side l.fn.turned l.fn.shape) l.fn.table l.table l.fn.place l.place
    (scene l.fn.builds (g.St.Store.holds l.fn.store) (g.St.Store.signs l.fn.store)) (scene l.builds (g.St.Store.holds l.store) (g.St.Store.signs l.store))

abbrev pub decreases-more : goal.decreases-more
decreases-more g l = l.builds.count - l.place.row
