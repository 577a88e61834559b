-- What each call of a session gives and leaves, one record a call. Each layer cites it with its own view of the session.
use Rattle.std.specs.Prelude.{◌≡◌, ◌↔◌, ◌≤◌, ℕ, List, [], ◌∷◌, None, Option, Result, Err, IsErr, IfErr, IfNone, IfOk, IfSome, OnErr, OnOk}
use Rattle.block_arena.specs.Memory.{Buffer}
use Rattle.reservation_tree.specs.Answer.{IsFrom}
use Rattle.reservation_tree.specs.Change.{Refusal}
use Rattle.reservation_tree.specs.declared.errors.PoolErr.{PoolErr}
use Rattle.reservation_tree.specs.declared.errors.PoolErr.TheVariants.{NamesSpent, TooManyTrackers}
use Rattle.pool_model.specs.declared.call.Call.{Call}
use Rattle.pool_model.specs.declared.call.Call.TheVariants as call
use Rattle.pool_model.specs.declared.entry.Entry.{Entry}
use Rattle.pool_model.specs.declared.event.Event.{Event}
use Rattle.pool_model.specs.declared.event.Event.TheVariants as event
use Rattle.pool_model.specs.State.{Opening, State}
use Rattle.pool_model.specs.Sums.{HasRoom}
use Rattle.store_api.specs.Tokens.{ClientToken, LoanToken, PageToken}
use Rattle.store_api.specs.Holdings.{Holdings, account_of, page_of}
use Rattle.store_api.specs.Changes.{query_growth, shortfall}
use Rattle.store_api.specs.Signs.{Signs}
use Rattle.store_api.specs.Conditions.{ShowsLeft}
use Rattle.store_api.specs.Entries.{IsAsked, IsPin, IsTaken}
use Rattle.store_api.specs.Refusals.{IsScratchFull, IsSharedRefusal, LacksSlots, move_refusal, reserve_refusal}
use Rattle.own_entries.specs.OwnHoldings.{Outset}
use Rattle.pin_core.specs.StateOf.{state_of}
use Rattle.pin_core.specs.calls.Entering.{fit_refusal, growth_refusal}
use Rattle.session_calls.specs.declared.hand.Hand.{Hand}
use Rattle.session_calls.specs.Acting.{Acts, held_by, signs_by}
use Rattle.session_calls.specs.Coming.{IsFresh, IsFreshLoan, IsFreshPage}
use Rattle.session_calls.specs.Jobs.{DoesIn}
use Rattle.session_calls.specs.Showing.{ShowsStored}
use Rattle.session_calls.specs.Turning.{Refuses}

-- how a layer sees a call of a session: what the session held and what showed of it before; with what the pool opened, and the
-- history and the state that it knows of afterwards; that the session entered events of which something holds, or did nothing; and
-- that a call that needs room of a client was refused with an error
pub record View : Type 1 where
  pub holds : Holdings
  pub signs : Signs
  pub opening : Opening
  pub history : List Entry
  pub state : State
  pub did : (List Event → Type 0) → Type 0
  pub same : Type 0
  pub refused : ℕ → Call → PoolErr → Type 0

module _ {D : Type 0} (o : Opening) (u : Outset) where
  -- how a session sees it that has the value in hand before and after, and gave it back in between or not
  abbrev pub in_hand : Hand D → Hand D → View
  in_hand old new = record {
    holds = held_by o u old;
    signs = signs_by o old;
    opening = o;
    history = new.trail;
    state = state_of new.state;
    did = λ P. DoesIn P old new;
    same = new ≡ old;
    refused = λ t what. Refuses o u t what old new;
  }

  -- and where it had the value in hand all the time, in a call that needs no room
  abbrev pub in_turn : Hand D → Hand D → View
  in_turn old new = record (in_hand old new) { did = λ P. Acts P old new; refused = λ t what e. ⊥ }

module _ (v : View) where
  -- it entered these
  abbrev pub DidThese : List Event → Type 0
  DidThese these = v.did (λ events. events ≡ these)

  -- a new client with this limit came, unless sixteen are live
  pub record AddsClient (limit : ℕ) (result : Result ClientToken PoolErr) : Type 0 where
    pub ok : IfOk result (λ c. DidThese (event.AddTracker c.tracker v.holds.query limit None ∷ []))
    pub fresh : IfOk result (λ c. IsFresh c v.holds)
    pub refused : IsErr result ↔ (16 ≤ v.holds.live_clients)
    pub cause : IfErr result (λ e. e ≡ TooManyTrackers 16)
    pub err : OnErr result v.same

  -- the client ended, and its reservation is the query's room
  pub record EndsClient (t : ℕ) : Type 0 where
    pub did : DidThese (event.MoveReservation t v.holds.query (account_of t v.holds).reservation ∷ event.CloseTracker t ∷ [])
    pub apart : v.holds.clients v.holds.query ≡ None

  -- the client's reservation rose by so many bytes, with this event, unless a limit would be passed; a refusal is the one that this
  -- rule gives in the state
  pub record Raises (last : Event) (t bytes : ℕ) (rule : State → Option Refusal) (result : Result (Unit {0}) PoolErr) : Type 0 where
    pub ok : OnOk result (DidThese (last ∷ []))
    pub refused : IfSome (reserve_refusal t bytes v.holds) (λ e. result ≡ Err e)
    pub shared : IfNone (reserve_refusal t bytes v.holds) (IfErr result (IsSharedRefusal (query_growth bytes v.holds) v.holds.above))
    pub cause : IfErr result (IsFrom (rule v.state))
    pub err : OnErr result v.same

  -- it rose by so many bytes, or until so many are unused
  abbrev pub Reserves : ℕ → ℕ → Result (Unit {0}) PoolErr → Type 0
  Reserves t bytes = Raises (event.Increase t bytes) t bytes (λ s. growth_refusal s t bytes)

  abbrev pub ReservesToFit : ℕ → ℕ → Result (Unit {0}) PoolErr → Type 0
  ReservesToFit t bytes = Raises (event.IncreaseToFit t bytes) t (shortfall t bytes v.holds) (λ s. fit_refusal s t bytes)

  -- these bytes were left in the page, unless too few slots are free: then the buffer comes back
  pub record Unpins (p : PageToken) (buf : Buffer) (result : Result (Unit {0}) (Buffer × PoolErr)) : Type 0 where
    pub ok : OnOk result (DidThese (event.Unpin p.name buf.bytes ∷ []))
    pub refused : IsErr result ↔ LacksSlots (page_of p.name v.holds) v.holds.free_slots
    pub err : OnErr result (DidThese (event.UnpinRefused p.name ∷ []))
    pub cause : IfErr result (λ e. IsScratchFull (page_of p.name v.holds).blocks v.holds.free_slots e.1)
    pub back : IfErr result (λ e. e.0 ≡ buf)

  -- the page ended, and its buffer is a new loan of the same client
  pub record Extracts (p : PageToken) (buf : Buffer) (loan : LoanToken) : Type 0 where
    pub did : DidThese (event.Extract p.name loan.number ∷ [])
    pub fresh : v.holds.loans loan.number ≡ None
    pub client : loan.client ≡ p.client
    pub buffer : loan.buf ≡ buf

  -- the client's reservation fell by so many bytes, once what it holds fit
  pub record GivesBack (t bytes : ℕ) (result : Result (Unit {0}) PoolErr) : Type 0 where
    pub ok : OnOk result (v.did (IsAsked t v.holds (event.Decrease t bytes ∷ [])))
    pub err : IfErr result (v.refused t (call.GiveBack t bytes))

  -- so many bytes of reservation went to the other client; where its limit would be passed, nothing was written
  pub record MovesReservation (from to bytes : ℕ) (result : Result (Unit {0}) PoolErr) : Type 0 where
    pub ok : OnOk result (v.did (IsAsked from v.holds (event.MoveReservation from to bytes ∷ [])))
    pub refused : IfSome (move_refusal from to bytes v.holds) (λ e. (result ≡ Err e) × v.same)
    pub err : IfNone (move_refusal from to bytes v.holds) (IfErr result (v.refused from (call.MoveReservation from to bytes)))

  -- a new page came, once there was room for its bytes; names are looked at once there is room
  pub record Creates (t blocks bytes : ℕ) (result : Result (PageToken × Buffer) PoolErr) : Type 0 where
    pub ok : IfOk result (λ made. v.did (IsTaken t v.holds (event.Create made.0.name t blocks made.0.key ∷ [])))
    pub page : IfOk result (λ made. IsFreshPage t blocks made v.holds v.signs)
    pub err : IfErr result (v.refused t (call.Create t blocks))
    pub spent : result ≡ Err NamesSpent → HasRoom v.state t bytes

  -- a new loan came, once there was room
  pub record Allocs (t blocks : ℕ) (result : Result LoanToken PoolErr) : Type 0 where
    pub ok : IfOk result (λ loan. v.did (IsTaken t v.holds (event.Alloc loan.number t blocks ∷ [])))
    pub loan : IfOk result (λ loan. IsFreshLoan t blocks loan v.holds)
    pub err : IfErr result (v.refused t (call.Alloc t blocks))

  -- a page that rests was pinned, and its buffer shows what was left, also where blocks have marks and each was stored in this pool
  pub record Pins (p : PageToken) (result : Result Buffer PoolErr) : Type 0 where
    pub ok : OnOk result (v.did (IsPin p.client v.holds p.name))
    pub bytes : IfOk result (ShowsLeft (page_of p.name v.holds) v.holds)
    pub stored : IfOk result (ShowsStored v.opening v.history p.name (page_of p.name v.holds))
    pub err : IfErr result (v.refused p.client (call.Pin p.name))

  -- a pinned page was pinned once more, once there was room
  pub record PinsAgain (p : PageToken) (result : Result (Unit {0}) PoolErr) : Type 0 where
    pub ok : OnOk result (v.did (IsAsked p.client v.holds (event.PinAgain p.name ∷ [])))
    pub err : IfErr result (v.refused p.client (call.PinAgain p.name))

  -- a loan was charged to another client, once that one had room; or it comes back with the error
  pub record MovesBuffer (loan : LoanToken) (to : ℕ) (result : Result LoanToken (LoanToken × PoolErr)) : Type 0 where
    pub ok : OnOk result (v.did (IsAsked to v.holds (event.MoveBuffer loan.number to ∷ [])))
    pub moved : IfOk result (λ moved. moved ≡ record loan { client = to })
    pub back : IfErr result (λ e. e.0 ≡ loan)
    pub err : IfErr result (λ e. v.refused to (call.MoveBuffer loan.number to) e.1)
