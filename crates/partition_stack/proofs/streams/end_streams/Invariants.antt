use Rattle.std.proofs.Common.{length}
use Rattle.tuple_stream.specs.Families.{family}
use Rattle.partition_stack.proofs.Away.{Left}
use Rattle.partition_stack.proofs.streams.end_streams.Given as goal

abbrev pub invariant-loop-streams : goal.invariant-loop-streams
invariant-loop-streams g l =
    Left l.c.tracker (family l.initial.streams.items (g.St.Store.holds l.initial.store) (g.St.Store.signs l.initial.store)) (family l.streams.items (g.St.Store.holds l.store) (g.St.Store.signs l.store))

abbrev pub decreases-loop-streams : goal.decreases-loop-streams
decreases-loop-streams g l = length l.streams.items
