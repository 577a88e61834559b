use Rattle.std.proofs.Common.{length}
use Rattle.tuple_stream.specs.Families.{AreShaped, family}
use Rattle.tests_stores.proofs.tests.streams.pair.end_all.Given as goal

abbrev pub invariant-loop-streams : goal.invariant-loop-streams
invariant-loop-streams g l = AreShaped l.c.tracker (family l.streams.items (g.St.Store.holds l.store) (g.St.Store.signs l.store))

abbrev pub decreases-loop-streams : goal.decreases-loop-streams
decreases-loop-streams g l = length l.streams.items
