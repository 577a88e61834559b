-- What a call gave and left as one layer sees it, it did as the layer above sees it.
use Rattle.std.proofs.Common.{◌≡◌, ◌↔◌, ◌≤◌, ℕ, List, [], ◌∷◌, None, Option, Result, Err, IsErr, IfErr, IfNone, IfOk, IfSome, subst}
use Rattle.block_arena.specs.Memory.{Buffer}
use Rattle.reservation_tree.specs.Answer.{IsFrom}
use Rattle.reservation_tree.specs.Change.{Refusal}
use Rattle.reservation_tree.specs.declared.errors.PoolErr.{PoolErr}
use Rattle.pool_model.specs.declared.call.Call.{Call}
use Rattle.pool_model.specs.declared.call.Call.TheVariants as call
use Rattle.pool_model.specs.declared.event.Event.{Event}
use Rattle.pool_model.specs.declared.event.Event.TheVariants as event
use Rattle.pool_model.specs.declared.entry.Entry.{Entry}
use Rattle.pool_model.specs.State.{Opening, State}
use Rattle.pool_model.specs.Sums.{HasRoom}
use Rattle.store_api.specs.Tokens.{ClientToken, LoanToken, PageToken}
use Rattle.store_api.specs.Holdings.{Holdings, account_of, page_of}
use Rattle.store_api.specs.Changes.{query_growth, shortfall}
use Rattle.store_api.specs.Conditions.{ShowsLeft}
use Rattle.store_api.specs.Entries.{IsAsked, IsPin, IsTaken}
use Rattle.store_api.specs.Refusals.{IsScratchFull, IsSharedRefusal, LacksSlots, move_refusal, reserve_refusal}
use Rattle.pin_core.specs.calls.Entering.{fit_refusal, growth_refusal}
use Rattle.session_calls.specs.Calls.{AddsClient, Allocs, Creates, EndsClient, Extracts, GivesBack, MovesBuffer, MovesReservation, Pins, PinsAgain, Raises, Reserves, ReservesToFit, Unpins, View}
use Rattle.session_calls.specs.Coming.{IsFresh, IsFreshLoan, IsFreshPage}
use Rattle.session_calls.specs.Showing.{ShowsStored}
use Rattle.session_calls.proofs.Results.{err_so, none_so, ok_so, on_err_so, on_ok_so, some_so}

-- what one layer sees of a call, the other sees too
pub record Carries (v w : View) : Type 1 where
  pub holds : v.holds ≡ w.holds
  pub fresh : (t blocks : ℕ) (made : PageToken × Buffer) → IsFreshPage t blocks made v.holds v.signs → IsFreshPage t blocks made w.holds w.signs
  pub opening : v.opening ≡ w.opening
  pub history : v.history ≡ w.history
  pub state : v.state ≡ w.state
  pub did : (P : List Event → Type 0) → v.did P → w.did P
  pub same : v.same → w.same
  pub refused : (t : ℕ) (what : Call) (e : PoolErr) → v.refused t what e → w.refused t what e

module _ {v w : View} (on : Carries v w) where
  did_on : (P : Holdings → List Event → Type 0) → v.did (P v.holds) → w.did (P w.holds)
  did_on P is = on.did (P w.holds) (subst (λ (h : Holdings). v.did (P h)) on.holds is)

  held_on : (P : Holdings → Type 0) → P v.holds → P w.holds
  held_on P is = subst P on.holds is

  pub adds_client_on : (limit : ℕ) (r : Result ClientToken PoolErr) → AddsClient v limit r → AddsClient w limit r
  adds_client_on limit r is = record {
    ok = ok_so r is.ok (λ c. did_on (λ h events. events ≡ event.AddTracker c.tracker h.query limit None ∷ []));
    fresh = held_on (λ (h : Holdings). IfOk r (λ c. IsFresh c h)) is.fresh;
    refused = held_on (λ (h : Holdings). IsErr r ↔ (16 ≤ h.live_clients)) is.refused;
    cause = is.cause;
    err = on_err_so r is.err on.same;
  }

  pub ends_client_on : (t : ℕ) → EndsClient v t → EndsClient w t
  ends_client_on t is = record {
    did = did_on (λ h events. events ≡ event.MoveReservation t h.query (account_of t h).reservation ∷ event.CloseTracker t ∷ []) is.did;
    apart = held_on (λ (h : Holdings). h.clients h.query ≡ None) is.apart;
  }

  raises_on : (last : Event) (t bytes : ℕ) (rule : State → Option Refusal) (r : Result (Unit {0}) PoolErr) → Raises v last t bytes rule r → Raises w last t bytes rule r
  raises_on last t bytes rule r is = record {
    ok = on_ok_so r is.ok (on.did _);
    refused = held_on (λ (h : Holdings). IfSome (reserve_refusal t bytes h) (λ e. r ≡ Err e)) is.refused;
    shared = held_on (λ (h : Holdings). IfNone (reserve_refusal t bytes h) (IfErr r (IsSharedRefusal (query_growth bytes h) h.above))) is.shared;
    cause = subst (λ (s : State). IfErr r (IsFrom (rule s))) on.state is.cause;
    err = on_err_so r is.err on.same;
  }

  pub reserves_on : (t bytes : ℕ) (r : Result (Unit {0}) PoolErr) → Reserves v t bytes r → Reserves w t bytes r
  reserves_on t bytes r is = raises_on (event.Increase t bytes) t bytes (λ s. growth_refusal s t bytes) r is

  pub reserves_to_fit_on : (t bytes : ℕ) (r : Result (Unit {0}) PoolErr) → ReservesToFit v t bytes r → ReservesToFit w t bytes r
  reserves_to_fit_on t bytes r is =
      subst (λ (h : Holdings). Raises w (event.IncreaseToFit t bytes) t (shortfall t bytes h) (λ s. fit_refusal s t bytes) r) on.holds
      (raises_on (event.IncreaseToFit t bytes) t (shortfall t bytes v.holds) (λ s. fit_refusal s t bytes) r is)

  pub unpins_on : (p : PageToken) (buf : Buffer) (r : Result (Unit {0}) (Buffer × PoolErr)) → Unpins v p buf r → Unpins w p buf r
  unpins_on p buf r is = record {
    ok = on_ok_so r is.ok (on.did _);
    refused = held_on (λ (h : Holdings). IsErr r ↔ LacksSlots (page_of p.name h) h.free_slots) is.refused;
    err = on_err_so r is.err (on.did _);
    cause = held_on (λ (h : Holdings). IfErr r (λ e. IsScratchFull (page_of p.name h).blocks h.free_slots e.1)) is.cause;
    back = is.back;
  }

  pub extracts_on : (p : PageToken) (buf : Buffer) (loan : LoanToken) → Extracts v p buf loan → Extracts w p buf loan
  extracts_on p buf loan is = record {
    did = on.did _ is.did;
    fresh = held_on (λ (h : Holdings). h.loans loan.number ≡ None) is.fresh;
    client = is.client;
    buffer = is.buffer;
  }

  pub gives_back_on : (t bytes : ℕ) (r : Result (Unit {0}) PoolErr) → GivesBack v t bytes r → GivesBack w t bytes r
  gives_back_on t bytes r is = record {
    ok = on_ok_so r is.ok (did_on (λ h. IsAsked t h (event.Decrease t bytes ∷ [])));
    err = err_so r is.err (on.refused t (call.GiveBack t bytes));
  }

  pub moves_reservation_on : (from to bytes : ℕ) (r : Result (Unit {0}) PoolErr) → MovesReservation v from to bytes r → MovesReservation w from to bytes r
  moves_reservation_on from to bytes r is = record {
    ok = on_ok_so r is.ok (did_on (λ h. IsAsked from h (event.MoveReservation from to bytes ∷ [])));
    refused = held_on (λ (h : Holdings). IfSome (move_refusal from to bytes h) (λ e. (r ≡ Err e) × w.same)) (some_so (move_refusal from to bytes v.holds) is.refused (λ e was. (was.0, on.same was.1)));
    err =
        held_on (λ (h : Holdings). IfNone (move_refusal from to bytes h) (IfErr r (w.refused from (call.MoveReservation from to bytes))))
        (none_so (move_refusal from to bytes v.holds) is.err (λ err. err_so r err (on.refused from (call.MoveReservation from to bytes))));
  }

  pub creates_on : (t blocks bytes : ℕ) (r : Result (PageToken × Buffer) PoolErr) → Creates v t blocks bytes r → Creates w t blocks bytes r
  creates_on t blocks bytes r is = record {
    ok = ok_so r is.ok (λ made. did_on (λ h. IsTaken t h (event.Create made.0.name t blocks made.0.key ∷ [])));
    page = ok_so r is.page (on.fresh t blocks);
    err = err_so r is.err (on.refused t (call.Create t blocks));
    spent = λ none. subst (λ (s : State). HasRoom s t bytes) on.state (is.spent none);
  }

  pub allocs_on : (t blocks : ℕ) (r : Result LoanToken PoolErr) → Allocs v t blocks r → Allocs w t blocks r
  allocs_on t blocks r is = record {
    ok = ok_so r is.ok (λ loan. did_on (λ h. IsTaken t h (event.Alloc loan.number t blocks ∷ [])));
    loan = held_on (λ (h : Holdings). IfOk r (λ loan. IsFreshLoan t blocks loan h)) is.loan;
    err = err_so r is.err (on.refused t (call.Alloc t blocks));
  }

  pub pins_on : (p : PageToken) (r : Result Buffer PoolErr) → Pins v p r → Pins w p r
  pins_on p r is = record {
    ok = on_ok_so r is.ok (did_on (λ h. IsPin p.client h p.name));
    bytes = held_on (λ (h : Holdings). IfOk r (ShowsLeft (page_of p.name h) h)) is.bytes;
    stored =
        held_on (λ (h : Holdings). IfOk r (ShowsStored w.opening w.history p.name (page_of p.name h)))
        (subst (λ (o : Opening). IfOk r (ShowsStored o w.history p.name (page_of p.name v.holds))) on.opening
        (subst (λ (h : List Entry). IfOk r (ShowsStored v.opening h p.name (page_of p.name v.holds))) on.history is.stored));
    err = err_so r is.err (on.refused p.client (call.Pin p.name));
  }

  pub pins_again_on : (p : PageToken) (r : Result (Unit {0}) PoolErr) → PinsAgain v p r → PinsAgain w p r
  pins_again_on p r is = record {
    ok = on_ok_so r is.ok (did_on (λ h. IsAsked p.client h (event.PinAgain p.name ∷ [])));
    err = err_so r is.err (on.refused p.client (call.PinAgain p.name));
  }

  pub moves_buffer_on : (loan : LoanToken) (to : ℕ) (r : Result LoanToken (LoanToken × PoolErr)) → MovesBuffer v loan to r → MovesBuffer w loan to r
  moves_buffer_on loan to r is = record {
    ok = on_ok_so r is.ok (did_on (λ h. IsAsked to h (event.MoveBuffer loan.number to ∷ [])));
    moved = is.moved;
    back = is.back;
    err = err_so r is.err (λ e. on.refused to (call.MoveBuffer loan.number to) e.1);
  }
