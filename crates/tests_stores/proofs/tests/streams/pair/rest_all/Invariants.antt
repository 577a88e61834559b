use Rattle.tuple_stream.specs.Families.{family}
use Rattle.tuple_stream.specs.FamilyCalls.{RestsSome}
use Rattle.tests_stores.proofs.tests.streams.pair.rest_all.Given as goal

abbrev pub invariant-loop-at : goal.invariant-loop-at
invariant-loop-at g l =
    RestsSome l.c.tracker l.at (family l.initial.streams.items (g.St.Store.holds l.initial.store) (g.St.Store.signs l.initial.store)) (family l.streams.items (g.St.Store.holds l.store) (g.St.Store.signs l.store))
