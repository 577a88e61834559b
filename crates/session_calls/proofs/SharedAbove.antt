-- What stands above a session's query stays shared, whatever the session enters.
use Rattle.std.proofs.Common.{◌≡◌, ℕ, ◌-◌, ◌==◌, List, [], ◌∷◌, Bool, true, false, if◌then◌else◌, Some, None, ap}
use Rattle.pool_model.specs.declared.event.Event.{Event}
use Rattle.pool_model.specs.declared.event.Event.TheVariants.{AddTracker, CloseTracker, Increase, IncreaseToFit, Decrease, MoveReservation, UnpinOnce, MoveBuffer}
use Rattle.pool_model.specs.declared.entry.Entry.{Entry}
use Rattle.store_api.specs.Holdings.{Shared, Holdings, loan_of}
use Rattle.store_api.specs.Changes.{grown_above, fallen_above, query_growth, shortfall}
use Rattle.own_entries.specs.OwnHoldings.{Outset, step, after_entries, holdings_of, none_held, moved_between, has_client, has_several_pins}

either : (b : Bool) (u v : Holdings) → u.above ≡ Shared → v.above ≡ Shared → (if b then u else v).above ≡ Shared
either true u v first second = first
either false u v first second = second

between : (a b : Bool) (from to bytes : ℕ) (h : Holdings) → h.above ≡ Shared → (moved_between a b from to bytes h).above ≡ Shared
between true true from to bytes h is = either (from == to) _ _ is is
between true false from to bytes h is = is
between false true from to bytes h is = is
between false false from to bytes h is = is

shared_on : (event : Event) (h : Holdings) → h.above ≡ Shared → (step event h).above ≡ Shared
shared_on (AddTracker t parent limit (Some quota)) h is = is
shared_on (AddTracker t parent limit None) h is = is
shared_on (CloseTracker t) h is = either (has_client t h) _ _ is is
shared_on (Increase t bytes) h is = either (has_client t h) _ _ (ap (grown_above (query_growth bytes h)) is) (ap (grown_above bytes) is)
shared_on (IncreaseToFit t bytes) h is = either (has_client t h) _ _ (ap (grown_above (query_growth (shortfall t bytes h) h)) is) (ap (grown_above (bytes - h.room)) is)
shared_on (Decrease t bytes) h is = either (has_client t h) _ _ (ap (fallen_above bytes) is) (ap (fallen_above bytes) is)
shared_on (MoveReservation from to bytes) h is = between (has_client from h) (has_client to h) from to bytes h is
shared_on (UnpinOnce p) h is = either (has_several_pins p h) _ _ is is
shared_on (MoveBuffer f to) h is = either ((loan_of f h).client == to) _ _ is is
shared_on event h is = is

shared_after : (h : Holdings) (own : List Entry) → h.above ≡ Shared → (after_entries h own).above ≡ Shared
shared_after h [] is = is
shared_after h (e ∷ es) is = shared_after (step e.event h) es (shared_on e.event h is)

pub stays_shared : (block_len session : ℕ) (outset : Outset) → outset.above ≡ Shared → (own : List Entry) → (holdings_of block_len session outset own).above ≡ Shared
stays_shared block_len session outset is own = shared_after (none_held block_len session outset) own is
