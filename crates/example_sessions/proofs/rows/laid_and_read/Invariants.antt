use Rattle.store_api.specs.Conditions.{IsLiveClient}
use Rattle.tuple_stream.specs.Streams.{IsShaped, HasPageRoom}
use Rattle.tuple_stream.specs.Touches.{Touches}
use Rattle.example_sessions.proofs.rows.laid_and_read.Given as goal

-- the stream stays one of the client, with room for a page, and nothing else changed
abbrev pub invariant-loop-at : goal.invariant-loop-at
invariant-loop-at g l = record {
  client : IsLiveClient l.c (g.St.Store.holds l.store);
  stream : IsShaped l.c.tracker l.stream (g.St.Store.holds l.store);
  room : HasPageRoom l.c.tracker l.stream (g.St.Store.holds l.store);
  touches : Touches l.c.tracker l.fn.stream l.stream (g.St.Store.holds l.fn.store) (g.St.Store.holds l.store);
}

abbrev pub invariant-loop-left : goal.invariant-loop-left
invariant-loop-left g l = record {
  client : IsLiveClient l.c (g.St.Store.holds l.store);
  stream : IsShaped l.c.tracker l.stream (g.St.Store.holds l.store);
  room : HasPageRoom l.c.tracker l.stream (g.St.Store.holds l.store);
  touches : Touches l.c.tracker l.fn.stream l.stream (g.St.Store.holds l.fn.store) (g.St.Store.holds l.store);
}
