use Rattle.std.proofs.Common.{◌≡◌, ℕ, length}
use Rattle.store_api.specs.Signs.{Grows}
use Rattle.tuple_stream.specs.Streams.{IsShaped}
use Rattle.tuple_stream.specs.Touches.{Touches}
use Rattle.tuple_stream.specs.Trails.{EnteredEvents}
use Rattle.tuple_stream.specs.Steps.{scene}
use Rattle.tuple_stream.specs.Spending.{Goes}
use Rattle.tuple_stream.specs.Ending.{HasPages}
use Rattle.tuple_stream.proofs.stream.Stream.drop_all.Given as goal

abbrev pub invariant-loop-self : goal.invariant-loop-self
invariant-loop-self g l = record {
  sized : l.self.page_blocks ≡ l.initial.self.page_blocks;
  pages : (t : ℕ) → IsShaped t l.initial.self (g.St.Store.holds l.initial.store) → HasPages t l.self (g.St.Store.holds l.store);
  touches : (t : ℕ) → IsShaped t l.initial.self (g.St.Store.holds l.initial.store) → Touches t l.initial.self l.self (g.St.Store.holds l.initial.store) (g.St.Store.holds l.store);
  gone : EnteredEvents (Goes (scene l.initial.self (g.St.Store.holds l.initial.store) (g.St.Store.signs l.initial.store)) (scene l.self (g.St.Store.holds l.store) (g.St.Store.signs l.store))) (g.St.Store.signs l.initial.store).trail (g.St.Store.signs l.store).trail;
  grows : Grows (g.St.Store.signs l.initial.store) (g.St.Store.signs l.store);
}

abbrev pub decreases-loop-self : goal.decreases-loop-self
decreases-loop-self g l = length l.self.pages
