-- Clients that come, that are idle, and that end. Statements alone.
use Rattle.std.specs.Prelude.{◌≡◌, ◌≢◌, ℕ, List, [], ◌∷◌, Some, None, IsSome}
use Rattle.std.specs.FinMap.{get}
use Rattle.pool_model.specs.declared.event.Event.TheVariants.{MoveReservation, CloseTracker}
use Rattle.pool_model.specs.declared.entry.Entry.{Entry}
use Rattle.pool_model.specs.Makers.{IsSession}
use Rattle.pool_model.specs.State.{Opening, Session, State}
use Rattle.pool_model.specs.Legal.{Follow, state_after, IsLegal}
use Rattle.store_api.specs.Holdings.{Holdings, account_of, unused_of}
use Rattle.store_api.specs.Conditions.{IsIdle}
use Rattle.store_api.specs.Entries.{by}
use Rattle.own_entries.specs.OwnHoldings.{Outset}
use Rattle.own_entries.specs.HeldLaws.{own_holdings}

-- a number that is no tracker's: of no client, not the query's, and without pages and loans
pub record IsNewNumber (t : ℕ) (h : Holdings) : Type 0 where
  pub fresh : h.clients t ≡ None
  pub apart : t ≢ h.query
  pub idle : IsIdle t h

-- what the pool doesn't have, the session doesn't hold
pub record HoldsOnlyLive (s : State) (h : Holdings) : Type 0 where
  pub trackers : (t : ℕ) → get s.trackers t ≡ None → IsNewNumber t h
  pub pages : (p : ℕ) → get s.pages p ≡ None → h.pages p ≡ None
  pub loans : (f : ℕ) → get s.buffers f ≡ None → h.loans f ≡ None

abbrev pub LegalHoldsOnlyLive : Type 0
LegalHoldsOnlyLive =
    (o : Opening) (outset : Outset) (h : List Entry) → IsLegal o h → (m : ℕ) (x : Session) → get (state_after o h).sessions m ≡ Some x
    → HoldsOnlyLive (state_after o h) (own_holdings o outset h m)

-- a client without pages and loans has its whole reservation unused, and a query without clients has its as room
pub record IsWholeIdle (h : Holdings) : Type 0 where
  pub clients : (t : ℕ) → IsSome (h.clients t) → IsIdle t h → unused_of t h ≡ (account_of t h).reservation
  pub query : h.live_clients ≡ 0 → h.room ≡ h.reservation

abbrev pub LegalIdleIsWhole : Type 0
LegalIdleIsWhole =
    (o : Opening) (outset : Outset) (h : List Entry) → IsLegal o h → (m : ℕ) (x : Session) → get (state_after o h).sessions m ≡ Some x → IsWholeIdle (own_holdings o outset h m)

-- a client without pages and loans may end, by the two entries of that call
abbrev pub LegalEndsIdle : Type 0
LegalEndsIdle =
    (o : Opening) (outset : Outset) (h : List Entry) → IsLegal o h → (m : ℕ) (x : Session) → IsSession m → get (state_after o h).sessions m ≡ Some x
    → (t : ℕ) → IsSome ((own_holdings o outset h m).clients t) → IsIdle t (own_holdings o outset h m)
    → Follow h (state_after o h) (by m (MoveReservation t (own_holdings o outset h m).query (account_of t (own_holdings o outset h m)).reservation ∷ CloseTracker t ∷ []))
