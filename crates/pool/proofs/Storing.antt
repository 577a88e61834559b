-- What a session's calls leave, as the clauses of a store say it, however they end.
use Rattle.std.proofs.Common.{◌≡◌, ◌<◌, ℕ, ◌+◌, List, [], ◌∷◌, ◌++◌, filter, length, length-append, Bool, Option, Some, None, Result, Ok, Err, IfOk, OnErr, IfErr, IfSome, IfNone, refl, sym, ap, ◌∙◌, subst, arith}
use Rattle.std.proofs.lemmas.List.Elements.{filter-append}
use Rattle.block_arena.specs.Memory.{Buffer}
use Rattle.reservation_tree.specs.declared.errors.PoolErr.{PoolErr}
use Rattle.pool_model.specs.State.{Opening}
use Rattle.pool_model.specs.LookingBack.{made_by}
use Rattle.pool_model.specs.declared.call.Call.{Call}
use Rattle.pool_model.specs.declared.event.Event.{Event}
use Rattle.pool_model.specs.declared.event.Event.TheVariants.{AddTracker, Alloc, Create, UnpinRefused}
use Rattle.pool_model.specs.declared.entry.Entry.{Entry}
use Rattle.store_api.specs.Tokens.{ClientToken, LoanToken, PageToken}
use Rattle.store_api.specs.Holdings.{page_of}
use Rattle.store_api.specs.Conditions.{IsNewClient, IsNewLoan, IsNewPage}
use Rattle.store_api.specs.Entries.{by, IsTaken, Made, MadeThese}
use Rattle.store_api.specs.Signs.{CountsRefused, CountsStale, Grows, Signs, WasAnswered, refuses_unpin}
use Rattle.store_api.specs.Refusals.{IsScratchFull, IsUntouched, StaysPinned}
use Rattle.own_entries.specs.OwnHoldings.{after_events}
use Rattle.own_entries.proofs.Calls.{calls_tell}
use Rattle.session_calls.specs.Coming.{IsFresh, IsFreshLoan}
use Rattle.session_calls.specs.Coming.{IsFreshPage}
use Rattle.session_calls.specs.Doing.{Does}
use Rattle.session_calls.specs.Told.{held_in, signs_in}
use Rattle.session_calls.proofs.Doing.{does_grows, does_held, does_made, does_none}
use Rattle.pool.specs.Items.{history}
use Rattle.pool.specs.Sitting.{Did, DidThese, Sitting, WasDeclined, held_by, shared, signs_by}

-- how many unpins are refused in these
abbrev refusals : List Entry → ℕ
refusals h = length (filter (λ e. refuses_unpin e.event) h)

-- a refused unpin is counted
refusal_counts : (o : Opening) (m p : ℕ) (before now : List Entry) → Does m (λ events. events ≡ UnpinRefused p ∷ []) before now
    → (signs_in o m before).refused_unpins < (signs_in o m now).refused_unpins
unfolding signs_in
refusal_counts o m p before now does =
    let more : refusals (made_by now m) ≡ refusals (made_by before m) + 1 =
    ap refusals (does.own ∙ ap (λ (events : List Event). made_by before m ++ by m events) does.is)
    ∙ ap length (filter-append (λ (e : Entry). refuses_unpin e.event) (made_by before m) (by m (UnpinRefused p ∷ [])))
    ∙ length-append (filter (λ e. refuses_unpin e.event) (made_by before m)) (filter (λ e. refuses_unpin e.event) (by m (UnpinRefused p ∷ []))) in
    omega (arith, more)

-- the error that tells slots shows in the count of refused unpins
answered : (blocks : ℕ) (free : Option ℕ) (e : PoolErr) (before after : Signs) → IsScratchFull blocks free e → before.refused_unpins < after.refused_unpins → WasAnswered e before after
answered blocks None e before after cause rose = absurd cause
answered blocks (Some free) e before after cause rose = subst (λ (err : PoolErr). WasAnswered err before after) (sym cause) rose

-- where the trail is told, the count of refused unpins is that of its entries
pub counted : (o : Opening) (s : Sitting) → CountsRefused (signs_by o s).trail (signs_by o s).refused_unpins
unfolding signs_in
counted o s = refl

-- and the count of stale loads is that of its
pub counted_stale : (o : Opening) (s : Sitting) → CountsStale (signs_by o s).trail (signs_by o s).stale
unfolding signs_in
counted_stale o s = refl

module _ (o : Opening) (told : Bool) where
  -- where nothing was called, nothing was entered
  pub none_made : (s : Sitting) → MadeThese (held_by o told s).session [] (signs_by o s) (signs_by o s)
  none_made s = does_made o (shared told) s.number (history s.spot.knows.seen) (history s.spot.knows.seen) (does_none s.number (history s.spot.knows.seen))

  module _ {P : List Event → Type 0} (old new : Sitting) (did : Did P old new) where
    -- what is held now is what its entries make of what was held
    pub did_held : held_by o told new ≡ after_events (held_by o told old) did.does.events
    did_held =
        ap (λ (m : ℕ). held_in o (shared told) m (history new.spot.knows.seen)) did.number
        ∙ does_held o (shared told) old.number (history old.spot.knows.seen) (history new.spot.knows.seen) did.does

    pub did_grows : Grows (signs_by o old) (signs_by o new)
    did_grows =
        subst (λ (m : ℕ). Grows (signs_by o old) (signs_in o m (history new.spot.knows.seen))) (sym did.number)
        (does_grows o (shared told) old.number (history old.spot.knows.seen) (history new.spot.knows.seen) did.does)

    -- the trail grew as the store's clauses say it
    pub did_made : Made (held_by o told old).session P (signs_by o old) (signs_by o new)
    did_made =
        subst (λ (m : ℕ). Made (held_by o told old).session P (signs_by o old) (signs_in o m (history new.spot.knows.seen))) (sym did.number)
        (does_made o (shared told) old.number (history old.spot.knows.seen) (history new.spot.knows.seen) did.does)

  module _ (old new : Sitting) where
    pub these_held : (events : List Event) → DidThese events old new → held_by o told new ≡ after_events (held_by o told old) events
    these_held events did = did_held old new did ∙ ap (after_events (held_by o told old)) did.does.is

    -- it entered nothing
    pub untouched : DidThese [] old new → IsUntouched (held_by o told old) (held_by o told new) (signs_by o old) (signs_by o new)
    untouched did = record { held = these_held [] did; entries = did_made old new did }

    pub stays_pinned : (p : ℕ) (buf : Buffer) (e : Buffer × PoolErr) → DidThese (UnpinRefused p ∷ []) old new
        → IsScratchFull (page_of p (held_by o told old)).blocks (held_by o told old).free_slots e.1 → e.0 ≡ buf
        → StaysPinned p buf (held_by o told old) (held_by o told new) (signs_by o old) (signs_by o new) e
    stays_pinned p buf e did cause back =
        let rose : (signs_by o old).refused_unpins < (signs_by o new).refused_unpins =
        subst (λ (m : ℕ). (signs_by o old).refused_unpins < (signs_in o m (history new.spot.knows.seen)).refused_unpins) (sym did.number)
        (refusal_counts o old.number p (history old.spot.knows.seen) (history new.spot.knows.seen) did.does) in
        record {
          held = these_held (UnpinRefused p ∷ []) did ∙ (calls_tell 0 (held_by o told old)).unpin_refused p;
          back = back;
          cause = cause;
          answered = answered (page_of p (held_by o told old)).blocks (held_by o told old).free_slots e.1 (signs_by o old) (signs_by o new) cause rose;
          entries = did_made old new did;
        }

    pub new_client : (c : ClientToken) (limit : ℕ) → DidThese (AddTracker c.tracker (held_by o told old).query limit None ∷ []) old new → IsFresh c (held_by o told old)
        → IsNewClient c limit (held_by o told old) (held_by o told new)
    new_client c limit did fresh = record {
      fresh = fresh.fresh;
      under = fresh.under;
      idle = fresh.idle;
      session = fresh.session;
      holdings = these_held (AddTracker c.tracker (held_by o told old).query limit None ∷ []) did ∙ (calls_tell 0 (held_by o told old)).add_client c.tracker limit;
    }

    pub new_page : (c : ClientToken) (blocks : ℕ) (page : PageToken × Buffer) → Did (IsTaken c.tracker (held_by o told old) (Create page.0.name c.tracker blocks page.0.key ∷ [])) old new
        → IsFreshPage c.tracker blocks page (held_by o told old) (signs_by o old) → IsNewPage c blocks page (held_by o told old) (held_by o told new)
    new_page c blocks page did fresh = record {
      fresh = fresh.fresh;
      client = fresh.client;
      buffer = fresh.buffer;
      holdings = did_held old new did ∙ (calls_tell c.tracker (held_by o told old)).create page.0.name c.tracker blocks page.0.key did.does.events did.does.is;
    }

    pub new_loan : (c : ClientToken) (blocks : ℕ) (loan : LoanToken) → Did (IsTaken c.tracker (held_by o told old) (Alloc loan.number c.tracker blocks ∷ [])) old new
        → IsFreshLoan c.tracker blocks loan (held_by o told old) → IsNewLoan c blocks loan (held_by o told old) (held_by o told new)
    new_loan c blocks loan did fresh = record {
      fresh = fresh.fresh;
      client = fresh.client;
      buffer = fresh.buffer;
      holdings = did_held old new did ∙ (calls_tell c.tracker (held_by o told old)).alloc loan.number c.tracker blocks did.does.events did.does.is;
    }

    pub refused_untouched : {A : Type 0} (refusal : Option PoolErr) (r : Result A PoolErr) → IfSome refusal (λ e. (r ≡ Err e) × DidThese [] old new)
        → IfSome refusal (λ e. (r ≡ Err e) × IsUntouched (held_by o told old) (held_by o told new) (signs_by o old) (signs_by o new))
    refused_untouched (Some e) r did = (did.0, untouched did.1)
    refused_untouched None r did = tt

    -- signs only grow, whether a call did what it says, did something else, or was declined
    module _ {A : Type 0} (P : A → List Event → Type 0) where
      pub grows_else : {E : Type 0} (others : List Event) (r : Result A E) → IfOk r (λ x. Did (P x) old new) → OnErr r (DidThese others old new) → Grows (signs_by o old) (signs_by o new)
      grows_else others (Ok x) did other = did_grows old new did
      grows_else others (Err e) did other = did_grows old new other

      pub grows_declined : (t : ℕ) (what : Call) (r : Result A PoolErr) → IfOk r (λ x. Did (P x) old new) → IfErr r (WasDeclined o told t what old new) → Grows (signs_by o old) (signs_by o new)
      grows_declined t what (Ok x) did declined = did_grows old new did
      grows_declined t what (Err e) did declined = declined.grows

      pub grows_moved : (t : ℕ) (what : Call) (refusal : Option PoolErr) (r : Result A PoolErr) → IfOk r (λ x. Did (P x) old new)
          → IfSome refusal (λ e. (r ≡ Err e) × DidThese [] old new) → IfNone refusal (IfErr r (WasDeclined o told t what old new)) → Grows (signs_by o old) (signs_by o new)
      grows_moved t what (Some e) r did none declined = did_grows old new none.1
      grows_moved t what None r did none declined = grows_declined t what r did declined

      pub grows_handed : (t : ℕ) (what : Call) (r : Result A (LoanToken × PoolErr)) → IfOk r (λ x. Did (P x) old new) → IfErr r (λ e. WasDeclined o told t what old new e.1)
          → Grows (signs_by o old) (signs_by o new)
      grows_handed t what (Ok x) did declined = did_grows old new did
      grows_handed t what (Err e) did declined = declined.grows

-- where there is an error, what follows from it
module _ {A E : Type 0} where
  pub err_all : {P : Type 0} {Q R S : E → Type 0} (r : Result A E) → OnErr r P → IfErr r Q → IfErr r R → ((e : E) → P → Q e → R e → S e) → IfErr r S
  err_all (Ok x) one two three so = tt
  err_all (Err e) one two three so = so e one two three
