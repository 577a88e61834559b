use Rattle.std.proofs.Common.{◌≡◌}
use Rattle.tuple_stream.specs.Families.{family, pages_in}
use Rattle.tuple_stream.specs.FamilyCalls.{RestsSome}
use Rattle.partition_stack.proofs.streams.rest_streams.Given as goal

abbrev pub invariant-loop-at : goal.invariant-loop-at
invariant-loop-at g l = record {
  rests : RestsSome l.c.tracker l.at (family l.initial.streams.items (g.St.Store.holds l.initial.store) (g.St.Store.signs l.initial.store)) (family l.streams.items (g.St.Store.holds l.store) (g.St.Store.signs l.store));
  pages : pages_in (family l.streams.items (g.St.Store.holds l.store) (g.St.Store.signs l.store)) ≡ pages_in (family l.initial.streams.items (g.St.Store.holds l.initial.store) (g.St.Store.signs l.initial.store));
}
