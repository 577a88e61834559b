-- A call that needs room of a client keeps the session, and no client comes or goes with it.
use Rattle.std.proofs.Common.{◌≡◌, ℕ, ◌==◌, List, ◌∷◌, [], true, false, if◌then◌else◌, Option, Some, IsSome, IfSome, IfNone, is_some, Result, Err, IfOk, IfErr, OnOk, refl, sym, ap, ◌∙◌}
use Rattle.outside.specs.declared.slot.Slot.{Ghosts}
use Rattle.block_arena.specs.Memory.{Buffer}
use Rattle.reservation_tree.specs.declared.errors.PoolErr.{PoolErr}
use Rattle.pool_model.specs.declared.call.Call.{Call}
use Rattle.pool_model.specs.declared.call.Call.TheVariants as call
use Rattle.pool_model.specs.declared.event.Event.{Event}
use Rattle.pool_model.specs.declared.event.Event.TheVariants.{Alloc, Create, Decrease, Destroy, MoveBuffer, MoveReservation, PinAgain}
use Rattle.pool_model.specs.State.{Opening}
use Rattle.store_api.specs.Tokens.{LoanToken, PageToken}
use Rattle.store_api.specs.Holdings.{Account, Holdings, put, account_of, loan_len, loan_of, page_of}
use Rattle.store_api.specs.Changes.{with_account, with_loan, charged, released, raised, lowered, after_give_back, after_move_reservation, after_create, after_pin, after_pin_again, after_destroy, after_alloc, after_move_buffer}
use Rattle.store_api.specs.Conditions.{IsLoan, IsPage}
use Rattle.store_api.specs.Entries.{IsAsked, IsPin, IsTaken}
use Rattle.store_api.specs.Refusals.{move_refusal}
use Rattle.own_entries.specs.OwnHoldings.{Outset, after_events}
use Rattle.own_entries.proofs.Calls.{calls_tell}
use Rattle.session_calls.specs.declared.hand.Hand.{Hand}
use Rattle.session_calls.specs.Told.{held_in}
use Rattle.session_calls.specs.Ready.{IsReady}
use Rattle.session_calls.specs.Acting.{held_by}
use Rattle.session_calls.specs.Jobs.{DoesIn}
use Rattle.session_calls.specs.Turning.{Refuses}
use Rattle.session_calls.proofs.Doing.{does_held, whose}
use Rattle.pool.proofs.Results.{ok_or_err, some_or_none}
use Rattle.pool.proofs.Staying.{Stay, put_stays, stay_as, stay_same}
use Rattle.pool.proofs.Stays.{its_loan, its_page}

-- two accounts are written, one after the other
puts_stay : (f : ℕ → Option Account) (j k : ℕ) (v w : Account) → IsSome (f j) → IsSome (f k) → (t : ℕ) → is_some (put k (Some w) (put j (Some v) f) t) ≡ is_some (f t)
puts_stay f j k v w there also t = put_stays (put j (Some v) f) k w (put_stays f j v there k ∙ also) t ∙ put_stays f j v there t

module _ (h : Holdings) where
  stay_moved : (from to bytes : ℕ) → IsSome (h.clients from) → IsSome (h.clients to) → Stay h (after_move_reservation from to bytes h)
  stay_moved from to bytes there also =
      elim (from == to) as (λ b. Stay h (if b then h else with_account to (raised bytes (account_of to h)) (with_account from (lowered bytes (account_of from h)) h))) [
        | true ↦ stay_same h h refl
        | false ↦ record { each = puts_stay h.clients from to _ _ there also; count = refl }
      ]

  stay_lent_on : (f to : ℕ) → IsSome (h.clients (loan_of f h).client) → IsSome (h.clients to) → Stay h (after_move_buffer f to h)
  stay_lent_on f to there also =
      let from : ℕ = (loan_of f h).client in
      let freed : Holdings = released from (loan_len f h) h in
      elim (from == to) as (λ b. Stay h (if b then h else with_loan f (Some (record (loan_of f h) { client = to })) (charged to (loan_len f h) freed))) [
        | true ↦ stay_same h h refl
        | false ↦ record { each = puts_stay h.clients from to _ _ there also; count = refl }
      ]

  -- what each call enters
  module _ (t : ℕ) (there : IsSome (h.clients t)) (events : List Event) where
    stay_given_back : (bytes : ℕ) → IsAsked t h (Decrease t bytes ∷ []) events → Stay h (after_events h events)
    stay_given_back bytes is =
        stay_as h (after_give_back t bytes h) (after_events h events) ((calls_tell t h).give_back t bytes events there is) (record { each = put_stays h.clients t _ there; count = refl })

    stay_moved_to : (to bytes : ℕ) → IsSome (h.clients to) → IsAsked t h (MoveReservation t to bytes ∷ []) events → Stay h (after_events h events)
    stay_moved_to to bytes also is =
        stay_as h (after_move_reservation t to bytes h) (after_events h events) ((calls_tell t h).move_reservation t to bytes events there also is) (stay_moved t to bytes there also)

    stay_created : (p key blocks : ℕ) → IsTaken t h (Create p t blocks key ∷ []) events → Stay h (after_events h events)
    stay_created p key blocks is =
        stay_as h (after_create p key t blocks h) (after_events h events) ((calls_tell t h).create p t blocks key events is) (record { each = put_stays h.clients t _ there; count = refl })

    stay_lent : (f blocks : ℕ) → IsTaken t h (Alloc f t blocks ∷ []) events → Stay h (after_events h events)
    stay_lent f blocks is =
        stay_as h (after_alloc f t blocks h) (after_events h events) ((calls_tell t h).alloc f t blocks events is) (record { each = put_stays h.clients t _ there; count = refl })

    stay_lent_to : (f : ℕ) → IsSome (h.clients (loan_of f h).client) → IsAsked t h (MoveBuffer f t ∷ []) events → Stay h (after_events h events)
    stay_lent_to f also is =
        stay_as h (after_move_buffer f t h) (after_events h events) ((calls_tell t h).move_buffer f t events is) (stay_lent_on f t also there)

  module _ (t p : ℕ) (there : IsSome (h.clients (page_of p h).client)) (events : List Event) where
    stay_pinned : IsPin t h p events → Stay h (after_events h events)
    stay_pinned is =
        stay_as h (after_pin p h) (after_events h events) ((calls_tell t h).pin p events is) (record { each = put_stays h.clients (page_of p h).client _ there; count = refl })

    stay_pinned_again : IsAsked t h (PinAgain p ∷ []) events → Stay h (after_events h events)
    stay_pinned_again is =
        stay_as h (after_pin_again p h) (after_events h events) ((calls_tell t h).pin_again p events is) (record { each = put_stays h.clients (page_of p h).client _ there; count = refl })

    stay_destroyed : events ≡ Destroy p ∷ [] → Stay h (after_events h events)
    stay_destroyed is =
        stay_as h (after_destroy p h) (after_events h events) (ap (after_events h) is ∙ (calls_tell t h).destroy p)
        (record { each = put_stays h.clients (page_of p h).client _ there; count = refl })

-- the session is the same, and so are its clients
pub record StaysOn {D : Type 0} (o : Opening) (u : Outset) (old new : Hand D) : Type 0 where
  pub session : new.session ≡ old.session
  pub clients : Stay (held_by o u old) (held_by o u new)

module _ {D : Type 0} {o : Opening} {u : Outset} {hand next : Hand D} where
  -- what the session holds tells whose it is
  pub refused_stays : (t : ℕ) (what : Call) (e : PoolErr) → Refuses o u t what hand next e → StaysOn o u hand next
  refused_stays t what e refuses = record {
    session = sym (whose o u next.session next.trail) ∙ ap (λ (h : Holdings). h.session) refuses.was.held ∙ whose o u hand.session hand.trail;
    clients = stay_same (held_by o u hand) (held_by o u next) refuses.was.held;
  }

  same_stays : next ≡ hand → StaysOn o u hand next
  same_stays same = record { session = ap (λ (x : Hand D). x.session) same; clients = stay_same (held_by o u hand) (held_by o u next) (ap (held_by o u) same) }

  did_stays : {P : List Event → Type 0} (did : DoesIn P hand next) → Stay (held_by o u hand) (after_events (held_by o u hand) did.does.events) → StaysOn o u hand next
  did_stays did stay = record {
    session = did.session;
    clients =
        stay_as (held_by o u hand) (after_events (held_by o u hand) did.does.events) (held_by o u next)
        (ap (λ (m : ℕ). held_in o u m next.trail) did.session ∙ does_held o u hand.session hand.trail next.trail did.does) stay;
  }

  module _ (t : ℕ) (there : IsSome ((held_by o u hand).clients t)) where
    pub give_back_stays : (bytes : ℕ) (r : Result (Unit {0}) PoolErr) → OnOk r (DoesIn (IsAsked t (held_by o u hand) (Decrease t bytes ∷ [])) hand next)
        → IfErr r (Refuses o u t (call.GiveBack t bytes) hand next) → StaysOn o u hand next
    give_back_stays bytes r ok err =
        ok_or_err r ok err (λ x did. did_stays did (stay_given_back (held_by o u hand) t there did.does.events bytes did.does.is)) (refused_stays t (call.GiveBack t bytes))

    pub move_stays : (to bytes : ℕ) → IsSome ((held_by o u hand).clients to) → (r : Result (Unit {0}) PoolErr) → OnOk r (DoesIn (IsAsked t (held_by o u hand) (MoveReservation t to bytes ∷ [])) hand next)
        → IfSome (move_refusal t to bytes (held_by o u hand)) (λ e. (r ≡ Err e) × (next ≡ hand)) → IfNone (move_refusal t to bytes (held_by o u hand)) (IfErr r (Refuses o u t (call.MoveReservation t to bytes) hand next)) → StaysOn o u hand next
    move_stays to bytes also r ok refused err =
        some_or_none (move_refusal t to bytes (held_by o u hand)) refused err (λ e is. same_stays is.1)
        (λ declined. ok_or_err r ok declined (λ x did. did_stays did (stay_moved_to (held_by o u hand) t there did.does.events to bytes also did.does.is)) (refused_stays t (call.MoveReservation t to bytes)))

    pub create_stays : (blocks : ℕ) (r : Result (PageToken × Buffer) PoolErr) → IfOk r (λ made. DoesIn (IsTaken t (held_by o u hand) (Create made.0.name t blocks made.0.key ∷ [])) hand next)
        → IfErr r (Refuses o u t (call.Create t blocks) hand next) → StaysOn o u hand next
    create_stays blocks r ok err =
        ok_or_err r ok err (λ made did. did_stays did (stay_created (held_by o u hand) t there did.does.events made.0.name made.0.key blocks did.does.is)) (refused_stays t (call.Create t blocks))

    pub alloc_stays : (blocks : ℕ) (r : Result LoanToken PoolErr) → IfOk r (λ loan. DoesIn (IsTaken t (held_by o u hand) (Alloc loan.number t blocks ∷ [])) hand next)
        → IfErr r (Refuses o u t (call.Alloc t blocks) hand next) → StaysOn o u hand next
    alloc_stays blocks r ok err =
        ok_or_err r ok err (λ loan did. did_stays did (stay_lent (held_by o u hand) t there did.does.events loan.number blocks did.does.is)) (refused_stays t (call.Alloc t blocks))

    pub move_buffer_stays : {slot : Ghosts D} → IsReady slot o u hand → (l : LoanToken) → IsLoan l (held_by o u hand) → (r : Result LoanToken (LoanToken × PoolErr))
        → OnOk r (DoesIn (IsAsked t (held_by o u hand) (MoveBuffer l.number t ∷ [])) hand next) → IfErr r (λ e. Refuses o u t (call.MoveBuffer l.number t) hand next e.1) → StaysOn o u hand next
    move_buffer_stays ready l is r ok err =
        ok_or_err r ok err (λ moved did. did_stays did (stay_lent_to (held_by o u hand) t there did.does.events l.number (its_loan hand next ready l.number is.lives) did.does.is))
        (λ e. refused_stays t (call.MoveBuffer l.number t) e.1)

  -- who is charged for a page is a client
  module _ {slot : Ghosts D} (ready : IsReady slot o u hand) (p : PageToken) (is : IsPage p (held_by o u hand)) where
    pub pin_stays : (r : Result Buffer PoolErr) → OnOk r (DoesIn (IsPin p.client (held_by o u hand) p.name) hand next) → IfErr r (Refuses o u p.client (call.Pin p.name) hand next) → StaysOn o u hand next
    pin_stays r ok err =
        ok_or_err r ok err (λ buf did. did_stays did (stay_pinned (held_by o u hand) p.client p.name (its_page hand next ready p.name is.lives) did.does.events did.does.is))
        (refused_stays p.client (call.Pin p.name))

    pub pin_again_stays : (r : Result (Unit {0}) PoolErr) → OnOk r (DoesIn (IsAsked p.client (held_by o u hand) (PinAgain p.name ∷ [])) hand next)
        → IfErr r (Refuses o u p.client (call.PinAgain p.name) hand next) → StaysOn o u hand next
    pin_again_stays r ok err =
        ok_or_err r ok err (λ x did. did_stays did (stay_pinned_again (held_by o u hand) p.client p.name (its_page hand next ready p.name is.lives) did.does.events did.does.is))
        (refused_stays p.client (call.PinAgain p.name))

    pub destroy_stays : DoesIn (λ events. events ≡ Destroy p.name ∷ []) hand next → StaysOn o u hand next
    destroy_stays did = did_stays did (stay_destroyed (held_by o u hand) p.client p.name (its_page hand next ready p.name is.lives) did.does.events did.does.is)
