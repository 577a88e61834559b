-- What the entries of a store's calls come to. Statements alone.
use Rattle.std.specs.Prelude.{◌≡◌, ℕ, ◌≤◌, ◌++◌, List, [], ◌∷◌, None, IsSome}
use Rattle.reservation_tree.specs.declared.errors.PoolErr.{PoolErr}
use Rattle.pool_model.specs.declared.call.Call.{Call}
use Rattle.pool_model.specs.declared.call.Call.TheVariants.{Pin}
use Rattle.pool_model.specs.declared.event.Event.{Event}
use Rattle.pool_model.specs.declared.event.Event.TheVariants.{AddTracker, CloseTracker, Increase, IncreaseToFit, Decrease, MoveReservation, Create, PinAgain, UnpinOnce, Unpin, UnpinRefused, Extract, Destroy, Alloc, Free, MoveBuffer}
use Rattle.pool_model.specs.declared.entry.Entry.{Entry}
use Rattle.store_api.specs.Holdings.{Holdings, account_of, page_of, unused_of, page_len}
use Rattle.store_api.specs.Changes.{after_add_client, after_end_client, after_reserve, shortfall, after_give_back, after_move_reservation, after_create, after_pin, after_pin_again, after_unpin_once, after_unpin, after_extract, after_destroy, after_alloc, after_free, after_move_buffer}
use Rattle.store_api.specs.Entries.{by, IsAsked, IsTaken, IsPin, IsRefusal}
use Rattle.own_entries.specs.OwnHoldings.{Outset, after_events, holdings_of}

-- the page's client is live, and has its length unused
pub record CanBeCharged (p : ℕ) (h : Holdings) : Type 0 where
  pub client : IsSome (h.clients (page_of p h).client)
  pub unused : page_len p h ≤ unused_of (page_of p h).client h

-- the entries of each call, as a store's clauses name them; `who` is the client of the call
pub record CallsTell (who : ℕ) (h : Holdings) : Type 0 where
  pub add_client : (t limit : ℕ) → after_events h (AddTracker t h.query limit None ∷ []) ≡ after_add_client t limit h
  pub end_client : (t : ℕ) → IsSome (h.clients t) → h.clients h.query ≡ None
      → after_events h (MoveReservation t h.query (account_of t h).reservation ∷ CloseTracker t ∷ []) ≡ after_end_client t h
  pub reserve : (t bytes : ℕ) → IsSome (h.clients t) → after_events h (Increase t bytes ∷ []) ≡ after_reserve t bytes h
  pub reserve_to_fit : (t bytes : ℕ) → IsSome (h.clients t) → after_events h (IncreaseToFit t bytes ∷ []) ≡ after_reserve t (shortfall t bytes h) h
  pub give_back : (t bytes : ℕ) (events : List Event) → IsSome (h.clients t) → IsAsked who h (Decrease t bytes ∷ []) events → after_events h events ≡ after_give_back t bytes h
  pub move_reservation : (from to bytes : ℕ) (events : List Event) → IsSome (h.clients from) → IsSome (h.clients to)
      → IsAsked who h (MoveReservation from to bytes ∷ []) events → after_events h events ≡ after_move_reservation from to bytes h
  pub create : (p t blocks key : ℕ) (events : List Event) → IsTaken who h (Create p t blocks key ∷ []) events → after_events h events ≡ after_create p key t blocks h
  pub pin : (p : ℕ) (events : List Event) → IsPin who h p events → after_events h events ≡ after_pin p h
  pub pin_again : (p : ℕ) (events : List Event) → IsAsked who h (PinAgain p ∷ []) events → after_events h events ≡ after_pin_again p h
  pub unpin_once : (p : ℕ) → 2 ≤ (page_of p h).pins → after_events h (UnpinOnce p ∷ []) ≡ after_unpin_once p h
  pub unpin : (p : ℕ) (bytes : List ℕ) → after_events h (Unpin p bytes ∷ []) ≡ after_unpin p bytes h
  pub unpin_refused : (p : ℕ) → after_events h (UnpinRefused p ∷ []) ≡ h
  pub extract : (p f : ℕ) → after_events h (Extract p f ∷ []) ≡ after_extract p f h
  pub destroy : (p : ℕ) → after_events h (Destroy p ∷ []) ≡ after_destroy p h
  pub alloc : (f t blocks : ℕ) (events : List Event) → IsTaken who h (Alloc f t blocks ∷ []) events → after_events h events ≡ after_alloc f t blocks h
  pub free : (f : ℕ) → after_events h (Free f ∷ []) ≡ after_free f h
  pub move_buffer : (f to : ℕ) (events : List Event) → IsAsked who h (MoveBuffer f to ∷ []) events → after_events h events ≡ after_move_buffer f to h
  pub refused : (call : Call) (e : PoolErr) (events : List Event) → ((p : ℕ) → call ≡ Pin p → CanBeCharged p h) → IsRefusal who h call e events → after_events h events ≡ h

abbrev pub AllCallsTell : Type 0
AllCallsTell = (who : ℕ) (h : Holdings) → CallsTell who h

-- entries are told one call after the other
abbrev pub CallsRunOn : Type 0
CallsRunOn =
    (block_len session : ℕ) (outset : Outset) (own : List Entry) (events : List Event)
    → holdings_of block_len session outset (own ++ by session events) ≡ after_events (holdings_of block_len session outset own) events

-- no entry changes the length of a block, whose session it is, and whether pins show what was left in pages
pub record StaysFrom (block_len session : ℕ) (outset : Outset) (h : Holdings) : Type 0 where
  pub block : h.block_len ≡ block_len
  pub whose : h.session ≡ session
  pub shows : h.told ≡ outset.told

abbrev pub OutsetsStay : Type 0
OutsetsStay = (block_len session : ℕ) (outset : Outset) (own : List Entry) → StaysFrom block_len session outset (holdings_of block_len session outset own)
