use Rattle.std.proofs.Common.{map, take}
use Rattle.tuple_stream.specs.Families.{family}
use Rattle.tuple_stream.specs.FamilyCalls.{FeedsAll}
use Rattle.tests_stores.proofs.Dealt.{share}
use Rattle.tests_stores.proofs.tests.streams.pair.feed_all.Given as goal

abbrev pub invariant-loop-row : goal.invariant-loop-row
invariant-loop-row g l =
    FeedsAll l.c.tracker (λ i. share i (map (λ r. r.items) (take l.row-index l.rows)))
    (family l.initial.streams.items (g.St.Store.holds l.initial.store) (g.St.Store.signs l.initial.store)) (family l.streams.items (g.St.Store.holds l.store) (g.St.Store.signs l.store))
