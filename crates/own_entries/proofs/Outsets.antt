-- No entry changes the length of a block, whose session it is, and whether pins show what was left.
use Rattle.std.proofs.Common.{◌≡◌, ℕ, ◌==◌, List, [], ◌∷◌, Bool, true, false, if◌then◌else◌, Some, None, refl, ◌∙◌}
use Rattle.pool_model.specs.declared.event.Event.{Event}
use Rattle.pool_model.specs.declared.event.Event.TheVariants.{AddTracker, CloseTracker, Increase, IncreaseToFit, Decrease, MoveReservation, UnpinOnce, MoveBuffer}
use Rattle.pool_model.specs.declared.entry.Entry.{Entry}
use Rattle.store_api.specs.Holdings.{Holdings, loan_of}
use Rattle.own_entries.specs.OwnHoldings.{Outset, step, after_entries, none_held, moved_between, has_client, has_several_pins}
use Rattle.own_entries.specs.CallLaws.{StaysFrom, OutsetsStay}

module _ (block_len session : ℕ) (outset : Outset) where
  abbrev Stays : Holdings → Type 0
  Stays = StaysFrom block_len session outset

  -- other numbers, but these three as they were
  same : (h g : Holdings) → Stays h → g.block_len ≡ h.block_len → g.session ≡ h.session → g.told ≡ h.told → Stays g
  same h g stays len whose shows = record { block = len ∙ stays.block; whose = whose ∙ stays.whose; shows = shows ∙ stays.shows }

  either : (b : Bool) (u v : Holdings) → Stays u → Stays v → Stays (if b then u else v)
  either true u v first second = first
  either false u v first second = second

  between : (a b : Bool) (from to bytes : ℕ) (h : Holdings) → Stays h → Stays (moved_between a b from to bytes h)
  between true true from to bytes h stays = either (from == to) _ _ stays (same h _ stays refl refl refl)
  between true false from to bytes h stays = same h _ stays refl refl refl
  between false true from to bytes h stays = same h _ stays refl refl refl
  between false false from to bytes h stays = stays

  stays_on : (event : Event) (h : Holdings) → Stays h → Stays (step event h)
  stays_on (AddTracker t parent limit (Some quota)) h stays = same h _ stays refl refl refl
  stays_on (AddTracker t parent limit None) h stays = same h _ stays refl refl refl
  stays_on (CloseTracker t) h stays = either (has_client t h) _ _ (same h _ stays refl refl refl) (same h _ stays refl refl refl)
  stays_on (Increase t bytes) h stays = either (has_client t h) _ _ (same h _ stays refl refl refl) (same h _ stays refl refl refl)
  stays_on (IncreaseToFit t bytes) h stays = either (has_client t h) _ _ (same h _ stays refl refl refl) (same h _ stays refl refl refl)
  stays_on (Decrease t bytes) h stays = either (has_client t h) _ _ (same h _ stays refl refl refl) (same h _ stays refl refl refl)
  stays_on (MoveReservation from to bytes) h stays = between (has_client from h) (has_client to h) from to bytes h stays
  stays_on (UnpinOnce p) h stays = either (has_several_pins p h) _ _ (same h _ stays refl refl refl) stays
  stays_on (MoveBuffer f to) h stays = either ((loan_of f h).client == to) _ _ stays (same h _ stays refl refl refl)
  stays_on event h stays = same h _ stays refl refl refl

  stays_from : (h : Holdings) (own : List Entry) → Stays h → Stays (after_entries h own)
  stays_from h [] stays = stays
  stays_from h (e ∷ es) stays = stays_from (step e.event h) es (stays_on e.event h stays)

pub outsets_stay : OutsetsStay
outsets_stay block_len session outset own =
    stays_from block_len session outset (none_held block_len session outset) own (record { block = refl; whose = refl; shows = refl })
