-- What a session holds, told by the entries that it made itself, the oldest first. Entries of others, and its own
-- writes and evictions, change none of it.
use Rattle.std.specs.Prelude.{ℕ, ◌+◌, ◌-◌, List, [], ◌∷◌, Bool, true, false, leb, if◌then◌else◌, Some, None, is_some}
use Rattle.pool_model.specs.declared.event.Event.{Event}
use Rattle.pool_model.specs.declared.event.Event.TheVariants.{AddTracker, CloseTracker, Increase, IncreaseToFit, Decrease, MoveReservation, Create, PinHere, PinLoad, ReadOk, ReadFailed, ReadStale, PinAgain, UnpinOnce, Unpin, Extract, Destroy, Alloc, Free, MoveBuffer}
use Rattle.pool_model.specs.declared.entry.Entry.{Entry}
use Rattle.store_api.specs.Holdings.{Above, Holdings, put, account_of, page_of, page_len}
use Rattle.store_api.specs.Changes.{with_page, charged, released, after_add_client, grown_above, fallen_above, raised, lowered, after_reserve, shortfall, after_give_back, after_move_reservation, after_create, after_pin, after_pin_again, after_unpin_once, after_unpin, after_extract, after_destroy, after_alloc, after_free, after_move_buffer}

-- what no entry tells: what stands above the query when its session is opened, and whether pins show what was left in
-- pages
pub record Outset : Type 0 where
  pub above : Above
  pub told : Bool

-- before its session is opened
abbrev pub none_held : ℕ → ℕ → Outset → Holdings
none_held block_len session outset = record {
  block_len = block_len;
  session = session;
  query = 0;
  limit = 0;
  reservation = 0;
  room = 0;
  above = outset.above;
  live_clients = 0;
  clients = λ q. None;
  pages = λ q. None;
  loans = λ q. None;
  free_slots = None;
  told = outset.told;
}

abbrev pub opened_with : ℕ → ℕ → ℕ → Holdings → Holdings
opened_with t limit quota h = record h {
  query = t;
  limit = limit;
  reservation = 0;
  room = 0;
  live_clients = 0;
  clients = λ q. None;
  pages = λ q. None;
  loans = λ q. None;
  free_slots = Some quota;
}

-- the query's own tracker grows, or falls
abbrev pub query_grown : ℕ → Holdings → Holdings
query_grown bytes h = record h { reservation = h.reservation + bytes; room = h.room + bytes; above = grown_above bytes h.above }

abbrev pub query_fallen : ℕ → Holdings → Holdings
query_fallen bytes h = record h { reservation = h.reservation - bytes; room = h.room - bytes; above = fallen_above bytes h.above }

-- a client gives reservation to its query, or takes some of the query's room
abbrev pub given_to_query : ℕ → ℕ → Holdings → Holdings
given_to_query from bytes h = record h { clients = put from (Some (lowered bytes (account_of from h))) h.clients; room = h.room + bytes }

abbrev pub taken_from_query : ℕ → ℕ → Holdings → Holdings
taken_from_query to bytes h = record h { clients = put to (Some (raised bytes (account_of to h))) h.clients; room = h.room - bytes }

abbrev pub client_ended : ℕ → Holdings → Holdings
client_ended t h = record h { clients = put t None h.clients; live_clients = h.live_clients - 1 }

-- with its query's tracker a session ends; free slots are told while it is live
abbrev pub session_ended : Holdings → Holdings
session_ended h = record h { free_slots = None }

-- the tracker is a client's; the session's only other one is its query's
abbrev pub has_client : ℕ → Holdings → Bool
has_client t h = is_some (h.clients t)

-- a page has more than one pin: by an unpin of one of several it never comes to rest
abbrev pub has_several_pins : ℕ → Holdings → Bool
has_several_pins p h = leb 2 (page_of p h).pins

-- reservation goes from one tracker to another, by whether the one and the other are clients'
abbrev pub moved_between : Bool → Bool → ℕ → ℕ → ℕ → Holdings → Holdings
moved_between true true from to bytes h = after_move_reservation from to bytes h
moved_between true false from to bytes h = given_to_query from bytes h
moved_between false true from to bytes h = taken_from_query to bytes h
moved_between false false from to bytes h = h

-- what one of its own events does
abbrev pub step : Event → Holdings → Holdings
step (AddTracker t parent limit (Some quota)) h = opened_with t limit quota h
step (AddTracker t parent limit None) h = after_add_client t limit h
step (CloseTracker t) h = if has_client t h then client_ended t h else session_ended h
step (Increase t bytes) h = if has_client t h then after_reserve t bytes h else query_grown bytes h
step (IncreaseToFit t bytes) h = if has_client t h then after_reserve t (shortfall t bytes h) h else query_grown (bytes - h.room) h
step (Decrease t bytes) h = if has_client t h then after_give_back t bytes h else query_fallen bytes h
step (MoveReservation from to bytes) h = moved_between (has_client from h) (has_client to h) from to bytes h
step (Create p client blocks key) h = after_create p key client blocks h
step (PinHere p) h = after_pin p h
step (PinLoad p) h = charged (page_of p h).client (page_len p h) h
step (ReadOk p) h = with_page p (Some (record (page_of p h) { pins = (page_of p h).pins + 1; left = [] })) h
step (ReadFailed p before after) h = released (page_of p h).client (page_len p h) h
step (ReadStale p wanted found) h = released (page_of p h).client (page_len p h) h
step (PinAgain p) h = after_pin_again p h
step (UnpinOnce p) h = if has_several_pins p h then after_unpin_once p h else h
step (Unpin p content) h = after_unpin p content h
step (Extract p f) h = after_extract p f h
step (Destroy p) h = after_destroy p h
step (Alloc f client blocks) h = after_alloc f client blocks h
step (Free f) h = after_free f h
step (MoveBuffer f to) h = after_move_buffer f to h
step _ h = h

-- after more of its own events
abbrev pub after_events : Holdings → List Event → Holdings
after_events h [] = h
after_events h (e ∷ es) = after_events (step e h) es

-- after more of its own entries
abbrev pub after_entries : Holdings → List Entry → Holdings
after_entries h [] = h
after_entries h (e ∷ es) = after_entries (step e.event h) es

-- what the session with this number holds, whose own entries these are
abbrev pub holdings_of : ℕ → ℕ → Outset → List Entry → Holdings
holdings_of block_len session outset own = after_entries (none_held block_len session outset) own
