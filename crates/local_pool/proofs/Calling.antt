-- What one owner's pool keeps over a call of its session that may write pages first.
use Rattle.std.proofs.Common.{◌≡◌, ℕ, List, Option, Some, None, Result, Ok, Err, IfOk, IfErr, IfNone, IfSome, refl, sym, ◌∙◌, subst}
use Rattle.outside.specs.declared.slot.Slot.{Ghosts}
use Rattle.reservation_tree.specs.declared.errors.PoolErr.{PoolErr}
use Rattle.pool_model.specs.declared.call.Call.{Call}
use Rattle.pool_model.specs.declared.event.Event.{Event}
use Rattle.pool_model.specs.State.{Opening}
use Rattle.store_api.specs.Tokens.{LoanToken}
use Rattle.own_entries.specs.OwnHoldings.{Outset}
use Rattle.own_entries.specs.AboveLaws.{AllBy}
use Rattle.session_calls.specs.declared.hand.Hand.{Hand}
use Rattle.session_calls.specs.Calls.{in_hand}
use Rattle.session_calls.specs.Having.{IsAtWork}
use Rattle.session_calls.specs.Jobs.{DoesIn}
use Rattle.session_calls.specs.Turning.{Refuses as IsRefused}
use Rattle.session_calls.proofs.Alone.{all_front, all_worked}
use Rattle.session_calls.proofs.Carried.{Carries}
use Rattle.local_pool.specs.declared.sole.Shelf.{Shelf}
use Rattle.local_pool.specs.Told.{outset_of, opening_of}
use Rattle.local_pool.specs.Counting.{AtOpening}
use Rattle.local_pool.specs.Making.{Makes}
use Rattle.local_pool.specs.Refusing.{Refuses}
use Rattle.local_pool.specs.Standing.{Stands}
use Rattle.local_pool.specs.Shelving.{FitsShelf, sees}
use Rattle.local_pool.specs.Viewing.{owned}
use Rattle.local_pool.proofs.Keeping.{opening_same, fits_on, stands_on, makes_on, refuses_on}
use Rattle.local_pool.proofs.Stepping.{Keeps, fresh_at, held_at}

module _ {D : Type 0} (slot : Ghosts D) {first : Option AtOpening} (own now : Hand D) (view : own ≡ now) (is : Stands slot first own) (new : Hand D) (shelf : Shelf D)
    (turns : AllBy new.session shelf.seen) (at_work : IsAtWork slot (opening_of slot own) (outset_of slot own.state) (sees shelf) new) where
  abbrev o : Opening
  o = opening_of slot own

  abbrev u : Outset
  u = outset_of slot own.state

  fits_now : FitsShelf slot shelf new
  fits_now = fits_on slot own is new at_work.ready shelf turns at_work.worked

  module _ {P : List Event → Type 0} (did : DoesIn P own new) where
    all : AllBy own.session did.does.more
    all =
        let mine : AllBy new.session new.trail = all_worked o (sees shelf) new at_work.worked turns in
        (all_front own.session own.trail did.does.more (subst (AllBy own.session) did.does.grew (subst (λ (m : ℕ). AllBy m new.trail) did.session mine))).1

    -- a call keeps it
    pub call_keeps : Keeps slot first shelf new
    call_keeps = (stands_on slot own is new at_work.ready did all, fits_now)

    -- and made its entries
    pub call_makes : Makes slot P now new
    call_makes = subst (λ (x : Hand D). Makes slot P x new) view (makes_on slot own is new at_work.ready did all)

  module _ (t : ℕ) (what : Call) where
    -- or was refused
    call_refuses : (e : PoolErr) → IsRefused o u t what own new e → Refuses slot t what now new e
    call_refuses e refused = subst (λ (x : Hand D). Refuses slot t what x new e) view (refuses_on slot own is new at_work.ready refused.did (all refused.did) t what e refused)

    pub ends_keeps : {A : Type 0} (P : A → List Event → Type 0) (r : Result A PoolErr) → IfOk r (λ x. DoesIn (P x) own new) → IfErr r (IsRefused o u t what own new) → Keeps slot first shelf new
    ends_keeps P (Ok x) did refused = call_keeps did
    ends_keeps P (Err e) did refused = call_keeps refused.did

    -- where another refusal comes first, nothing changed
    pub moved_keeps : {A : Type 0} (P : A → List Event → Type 0) (first_of : Option PoolErr) (r : Result A PoolErr) → IfOk r (λ x. DoesIn (P x) own new) → IfSome first_of (λ e. (r ≡ Err e) × (new ≡ own))
        → IfNone first_of (IfErr r (IsRefused o u t what own new)) → Keeps slot first shelf new
    moved_keeps P (Some e) r did same refused = (subst (Stands slot first) (sym same.1) is, fits_now)
    moved_keeps P None r did same refused = ends_keeps P r did refused

    -- and where the loan comes back with the error
    pub handed_keeps : {A : Type 0} (P : A → List Event → Type 0) (r : Result A (LoanToken × PoolErr)) → IfOk r (λ x. DoesIn (P x) own new) → IfErr r (λ e. IsRefused o u t what own new e.1) → Keeps slot first shelf new
    handed_keeps P (Ok x) did refused = call_keeps did
    handed_keeps P (Err e) did refused = call_keeps refused.did

  -- what the session did in the call is what the owner sees
  pub call_viewed : Carries (in_hand o u own new) (owned slot now new)
  call_viewed = record {
    holds = held_at slot own now view is;
    fresh = fresh_at slot own now view is;
    opening = sym (opening_same slot own is new at_work.ready);
    history = refl;
    state = refl;
    did = λ P did. call_makes did;
    same = λ same. same ∙ view;
    refused = call_refuses;
  }
