use Rattle.std.proofs.Common.{◌-◌, map}
use Rattle.tuple_stream.specs.Reading.{HasRead}
use Rattle.tuple_stream.specs.Steps.{scene}
use Rattle.tests_stores.proofs.tests.streams.pair.read_all.Given as goal

abbrev pub invariant-loop-row : goal.invariant-loop-row
invariant-loop-row g l =
    HasRead l.c.tracker (map (λ r. r.items) l.initial.out.items) (map (λ r. r.items) l.out.items) l.place
    (scene l.initial.stream (g.St.Store.holds l.initial.store) (g.St.Store.signs l.initial.store)) (scene l.stream (g.St.Store.holds l.store) (g.St.Store.signs l.store))

abbrev pub decreases-loop-row : goal.decreases-loop-row
decreases-loop-row g l = l.stream.count - l.place.row
