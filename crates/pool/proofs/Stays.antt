-- The calls with which no client comes or goes.
use Rattle.std.proofs.Common.{◌≡◌, ◌≤◌, ◌==◌, ℕ, ◌+◌, List, [], ◌∷◌, None, Result, Ok, Err, IsSome, IfOk, OnOk, OnErr, length, if◌then◌else◌, refl, sym, ap, ◌∙◌, subst}
use Rattle.std.proofs.lemmas.List.{append-nil}
use Rattle.pool.specs.declared.account.ClientAccount.{ClientAccount}
use Rattle.pool.specs.Unused.{unused_in}
use Rattle.outside.specs.declared.slot.Slot.{Ghosts}
use Rattle.pool_model.specs.declared.event.Event.{Event}
use Rattle.pool_model.specs.declared.event.Event.TheVariants.{AddTracker, CloseTracker, Increase, IncreaseToFit, MoveReservation, UnpinOnce, Unpin, UnpinRefused, Extract, Free}
use Rattle.pool_model.specs.State.{Opening}
use Rattle.store_api.specs.Tokens.{ClientToken}
use Rattle.store_api.specs.Holdings.{Holdings, account_of, page_of, page_len, loan_of, loan_len}
use Rattle.store_api.specs.Changes.{after_reserve, after_unpin_once, after_unpin, after_free, shortfall}
use Rattle.own_entries.specs.OwnHoldings.{Outset, after_events}
use Rattle.own_entries.proofs.Calls.{calls_tell}
use Rattle.pin_core.specs.StateOf.{state_of}
use Rattle.pin_core.specs.Standing.{slots_home}
use Rattle.session_calls.proofs.Lists.{NoneOpens}
use Rattle.session_calls.specs.declared.hand.Hand.{Hand}
use Rattle.session_calls.specs.Told.{held_in}
use Rattle.session_calls.specs.Moving.{quota_at}
use Rattle.session_calls.specs.Ready.{IsReady}
use Rattle.session_calls.specs.Acting.{Acts, ActsThese, held_by}
use Rattle.pool.specs.declared.ledger.Ledger.{Ledger}
use Rattle.pool.specs.Ledgers.{HasClients, HasOneMore}
use Rattle.pool.proofs.Entered.{held_then}
use Rattle.session_calls.proofs.Results.{on_ok_so, on_err_so}
use Rattle.pool.proofs.Results.{by_result}
use Rattle.pool.proofs.Staying.{Stay, stay_same, stay_as, stay_reserved, stay_released, has_still, has_more, has_fewer, page_client, loan_client}

module _ {D : Type 0} (hand next : Hand D) where
  pub acts_none : next ≡ hand → ActsThese [] hand next
  acts_none same = record {
    events = [];
    is = refl;
    trail = ap (λ (k : Hand D). k.trail) same ∙ sym (append-nil hand.trail);
    session = ap (λ (k : Hand D). k.session) same;
    opens = tt;
    quotas = λ k. ap (λ (n : Hand D). quota_at (state_of n.state) k) same;
    slots = λ measure. ap (λ (n : Hand D). slots_home measure n.state) same;
    counts = ap (λ (n : Hand D). n.counts) same;
  }

  -- something was entered, or nothing
  abbrev pub ActsSome : Type 0
  ActsSome = Acts (λ events. Unit {0}) hand next

  pub acts_some : {P : List Event → Type 0} → Acts P hand next → ActsSome
  acts_some acts = record { events = acts.events; is = tt; trail = acts.trail; session = acts.session; opens = acts.opens; quotas = acts.quotas; slots = acts.slots; counts = acts.counts }

  pub acts_either : {A E : Type 0} (P : A → List Event → Type 0) (r : Result A E) → IfOk r (λ x. Acts (P x) hand next) → OnErr r (next ≡ hand) → ActsSome
  acts_either P (Ok x) ok err = acts_some ok
  acts_either P (Err e) ok err = acts_some (acts_none err)

  pub acts_both : {A E : Type 0} (P Q : List Event → Type 0) (r : Result A E) → OnOk r (Acts P hand next) → OnErr r (Acts Q hand next) → ActsSome
  acts_both P Q (Ok x) ok err = acts_some ok
  acts_both P Q (Err e) ok err = acts_some err

  module _ {slot : Ghosts D} {o : Opening} {u : Outset} (ready : IsReady slot o u hand) where
    abbrev held : Holdings
    held = held_by o u hand

    stays : {these : List Event} (acts : ActsThese these hand next) → NoneOpens these → (k : Holdings) → after_events held these ≡ k → Stay held k → Stay held (held_by o u next)
    stays acts none k is stay = stay_as held k (held_by o u next) (held_then hand next acts none o u ∙ is) stay

    pub its_page : (p : ℕ) → IsSome (held.pages p) → IsSome (held.clients (page_of p held).client)
    unfolding held_in
    its_page p some = page_client o u hand.trail ready.whole.stands.legal hand.session ready.rests.live p some

    pub its_loan : (f : ℕ) → IsSome (held.loans f) → IsSome (held.clients (loan_of f held).client)
    unfolding held_in
    its_loan f some = loan_client o u hand.trail ready.whole.stands.legal hand.session ready.rests.live f some

    pub stays_unpinned_once : (p : ℕ) → IsSome (held.pages p) → 2 ≤ (page_of p held).pins → ActsThese (UnpinOnce p ∷ []) hand next → Stay held (held_by o u next)
    stays_unpinned_once p some several acts =
        let stay : Stay held (after_unpin_once p held) = let so = stay_released held (page_of p held).client (page_len p held) (its_page p some) in record { each = so.each; count = so.count } in
        stays acts (refl, tt) (after_unpin_once p held) ((calls_tell 0 held).unpin_once p several) stay

    pub stays_unpinned : {A E : Type 0} (r : Result A E) (p : ℕ) (bytes : List ℕ) → IsSome (held.pages p) → OnOk r (ActsThese (Unpin p bytes ∷ []) hand next) → OnErr r (ActsThese (UnpinRefused p ∷ []) hand next) → Stay held (held_by o u next)
    stays_unpinned r p bytes some ok err =
        let stay : Stay held (after_unpin p bytes held) = let so = stay_released held (page_of p held).client (page_len p held) (its_page p some) in record { each = so.each; count = so.count } in
        by_result r (on_ok_so r ok (λ acts. stays acts (refl, tt) (after_unpin p bytes held) refl stay)) (on_err_so r err (λ acts. stays acts (refl, tt) held refl (stay_same held held refl)))

    pub stays_extracted : (p f : ℕ) → ActsThese (Extract p f ∷ []) hand next → Stay held (held_by o u next)
    stays_extracted p f acts = stays acts (refl, tt) (after_events held (Extract p f ∷ [])) refl (record { each = λ t. refl; count = refl })

    pub stays_freed : (f : ℕ) → IsSome (held.loans f) → ActsThese (Free f ∷ []) hand next → Stay held (held_by o u next)
    stays_freed f some acts =
        let stay : Stay held (after_free f held) = let so = stay_released held (loan_of f held).client (loan_len f held) (its_loan f some) in record { each = so.each; count = so.count } in
        stays acts (refl, tt) (after_free f held) refl stay

    pub stays_reserved : {A E : Type 0} (r : Result A E) (t bytes : ℕ) → IsSome (held.clients t) → OnOk r (ActsThese (Increase t bytes ∷ []) hand next) → OnErr r (next ≡ hand) → Stay held (held_by o u next)
    stays_reserved r t bytes some ok err =
        by_result r (on_ok_so r ok (λ acts. stays acts (refl, tt) (after_reserve t bytes held) ((calls_tell 0 held).reserve t bytes some) (stay_reserved held t bytes some)))
        (on_err_so r err (λ same. stay_same held (held_by o u next) (ap (held_by o u) same)))

    pub stays_fitted : {A E : Type 0} (r : Result A E) (t bytes : ℕ) → IsSome (held.clients t) → OnOk r (ActsThese (IncreaseToFit t bytes ∷ []) hand next) → OnErr r (next ≡ hand) → Stay held (held_by o u next)
    stays_fitted r t bytes some ok err =
        by_result r (on_ok_so r ok (λ acts. stays acts (refl, tt) (after_reserve t (shortfall t bytes held) held) ((calls_tell 0 held).reserve_to_fit t bytes some) (stay_reserved held t (shortfall t bytes held) some)))
        (on_err_so r err (λ same. stay_same held (held_by o u next) (ap (held_by o u) same)))

    -- a client came, and an account with it
    pub has_come : {E : Type 0} (q limit : ℕ) (old new : Ledger) (r : Result ClientToken E) → HasClients old.accounts held → IfOk r (λ c. ActsThese (AddTracker c.tracker q limit None ∷ []) hand next) → OnErr r (next ≡ hand)
        → IfOk r (λ c. HasOneMore c.tracker old.accounts new.accounts) → OnErr r (new ≡ old) → HasClients new.accounts (held_by o u next)
    has_come q limit old new (Ok c) has acts same more kept =
        subst (HasClients new.accounts) (sym (held_then hand next acts (refl, tt) o u)) (has_more old.accounts new.accounts held c.tracker has limit more)
    has_come q limit old new (Err e) has acts same more kept =
        subst (λ (l : Ledger). HasClients l.accounts (held_by o u next)) (sym kept) (has_still old.accounts held (held_by o u next) has (stay_same held (held_by o u next) (ap (held_by o u) same)))

    -- a client went, and its account with it
    pub has_gone : (old new : List ClientAccount) (t k : ℕ) → k ≡ t → HasClients old held → IsSome (held.clients t) → held.clients held.query ≡ None
        → ActsThese (MoveReservation t held.query (account_of t held).reservation ∷ CloseTracker t ∷ []) hand next
        → ((q : ℕ) → unused_in new q ≡ (if q == k then None else unused_in old q)) → length new + 1 ≡ length old → HasClients new (held_by o u next)
    has_gone old new t k same has some apart acts gone count =
        subst (HasClients new) (sym (held_then hand next acts (refl, (refl, tt)) o u ∙ (calls_tell 0 held).end_client t some apart))
        (has_fewer old new held t has (subst (λ (j : ℕ). (q : ℕ) → unused_in new q ≡ (if q == j then None else unused_in old q)) same gone) count)
