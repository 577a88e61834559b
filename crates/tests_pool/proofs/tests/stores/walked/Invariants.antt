use Rattle.std.proofs.Common.{◌≡◌}
use Rattle.store_api.specs.Conditions.{IsLiveClient}
use Rattle.tuple_stream.specs.Streams.{IsShaped, HasPageRoom}
use Rattle.tuple_stream.specs.Places.{IsWithin}
use Rattle.tuple_stream.specs.Touches.{Touches}
use Rattle.tests_pool.proofs.tests.stores.walked.Given as goal

abbrev pub invariant-loop-s : goal.invariant-loop-s
invariant-loop-s g l = record {
  client : IsLiveClient l.c (g.St.Store.holds l.store);
  stream : IsShaped l.c.tracker l.stream (g.St.Store.holds l.store);
  room : HasPageRoom l.c.tracker l.stream (g.St.Store.holds l.store);
  place : IsWithin l.place l.stream;
  sized : l.stream.page_blocks ≡ l.initial.stream.page_blocks;
  touches : Touches l.c.tracker l.initial.stream l.stream (g.St.Store.holds l.initial.store) (g.St.Store.holds l.store);
}
