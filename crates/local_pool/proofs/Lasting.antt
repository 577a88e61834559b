-- What each call of one owner leaves, however it ends.
use Rattle.std.proofs.Common.{◌≡◌, ℕ, List, [], ◌∷◌, Option, Some, None, Result, Ok, Err, IfOk, IfErr, OnErr, IfSome, IfNone, refl, sym, ap, ◌∙◌, subst}
use Rattle.std.proofs.lemmas.List.{append-nil}
use Rattle.outside.specs.declared.slot.Slot.{Ghosts}
use Rattle.reservation_tree.specs.declared.errors.PoolErr.{PoolErr}
use Rattle.pool_model.specs.declared.call.Call.{Call}
use Rattle.pool_model.specs.declared.event.Event.{Event}
use Rattle.pool_model.specs.declared.event.Event.TheVariants.{AddTracker, Create, Alloc}
use Rattle.block_arena.specs.Memory.{Buffer}
use Rattle.store_api.specs.Tokens.{ClientToken, PageToken, LoanToken}
use Rattle.store_api.specs.Holdings.{Holdings}
use Rattle.store_api.specs.Conditions.{IsNewClient, IsNewPage, IsNewLoan}
use Rattle.store_api.specs.Entries.{IsTaken}
use Rattle.store_api.specs.Signs.{Grows, CountsRefused, CountsStale}
use Rattle.store_api.specs.Refusals.{IsUntouched, StaysPinned}
use Rattle.store_api.proofs.Growing.{grows_refl}
use Rattle.own_entries.specs.OwnHoldings.{after_events}
use Rattle.own_entries.proofs.Calls.{calls_tell}
use Rattle.own_entries.proofs.Outsets.{outsets_stay}
use Rattle.pin_core.specs.StateOf.{state_of}
use Rattle.session_calls.specs.declared.hand.Hand.{Hand}
use Rattle.local_pool.specs.Told.{outset_of, held_of, signs_of}
use Rattle.local_pool.specs.Making.{Makes}
use Rattle.session_calls.specs.Coming.{IsFresh, IsFreshLoan, IsFreshPage}
use Rattle.local_pool.specs.Refusing.{Refuses}
use Rattle.local_pool.proofs.Making.{makes_held, makes_grows}

pub counted : {D : Type 0} (own : Hand D) → CountsRefused (signs_of own).trail (signs_of own).refused_unpins
unfolding signs_of
counted own = refl

pub counted_stale : {D : Type 0} (own : Hand D) → CountsStale (signs_of own).trail (signs_of own).stale
unfolding signs_of
counted_stale own = refl

module _ {D : Type 0} (slot : Ghosts D) where
  -- the owner holds blocks of the pool's length
  pub len_is : (own : Hand D) → (held_of slot own).block_len ≡ (state_of own.state).block_len
  unfolding held_of
  len_is own = (outsets_stay (state_of own.state).block_len own.session (outset_of slot own.state) own.trail).block

  -- the length of a block stays, and signs only grow
  pub record Lasts (old new : Hand D) : Type 0 where
    pub len : (held_of slot new).block_len ≡ (held_of slot old).block_len
    pub grows : Grows (signs_of old) (signs_of new)

  pub lasts_made : {P : List Event → Type 0} (old new : Hand D) → Makes slot P old new → Lasts old new
  lasts_made old new made = record { len = len_is new ∙ made.block_len ∙ sym (len_is old); grows = makes_grows slot old new made }

  pub lasts_same : (old new : Hand D) → new ≡ old → Lasts old new
  lasts_same old new same = subst (Lasts old) (sym same) (record { len = refl; grows = grows_refl (signs_of old) })

  pub lasts_refused : (t : ℕ) (what : Call) (old new : Hand D) (e : PoolErr) → Refuses slot t what old new e → Lasts old new
  lasts_refused t what old new e refused = record { len = ap (λ (h : Holdings). h.block_len) refused.was.held; grows = refused.grows }

  module _ {A : Type 0} (old new : Hand D) where
    -- its entries came, or nothing changed
    pub lasts_or_same : {E : Type 0} (P : A → List Event → Type 0) (r : Result A E) → IfOk r (λ x. Makes slot (P x) old new) → OnErr r (new ≡ old) → Lasts old new
    lasts_or_same P (Ok x) made same = lasts_made old new made
    lasts_or_same P (Err e) made same = lasts_same old new same

    -- its entries came, or it was refused
    pub lasts_or_refused : (P : A → List Event → Type 0) (t : ℕ) (what : Call) (r : Result A PoolErr) → IfOk r (λ x. Makes slot (P x) old new) → IfErr r (Refuses slot t what old new) → Lasts old new
    lasts_or_refused P t what (Ok x) made refused = lasts_made old new made
    lasts_or_refused P t what (Err e) made refused = lasts_refused t what old new e refused

    -- it was refused for the other client's limit, or for want of room
    pub lasts_moved : (P : A → List Event → Type 0) (t : ℕ) (what : Call) (o : Option PoolErr) (r : Result A PoolErr)
        → IfOk r (λ x. Makes slot (P x) old new) → IfSome o (λ e. (r ≡ Err e) × (new ≡ old)) → IfNone o (IfErr r (Refuses slot t what old new)) → Lasts old new
    lasts_moved P t what (Some e) r made same refused = lasts_same old new same.1
    lasts_moved P t what None r made same refused = lasts_or_refused P t what r made refused

    -- the loan was charged to another client, or came back
    pub lasts_handed : (P : A → List Event → Type 0) (t : ℕ) (what : Call) (r : Result A (LoanToken × PoolErr))
        → IfOk r (λ x. Makes slot (P x) old new) → IfErr r (λ e. Refuses slot t what old new e.1) → Lasts old new
    lasts_handed P t what (Ok x) made refused = lasts_made old new made
    lasts_handed P t what (Err e) made refused = lasts_refused t what old new e.1 refused

    -- bytes were left in the page, or it stays pinned
    pub lasts_left : (P : A → List Event → Type 0) (p : ℕ) (buf : Buffer) (r : Result A (Buffer × PoolErr))
        → IfOk r (λ x. Makes slot (P x) old new) → IfErr r (StaysPinned p buf (held_of slot old) (held_of slot new) (signs_of old) (signs_of new)) → Grows (signs_of old) (signs_of new)
        → Lasts old new
    lasts_left P p buf (Ok x) made stays grows = lasts_made old new made
    lasts_left P p buf (Err e) made stays grows = record { len = ap (λ (h : Holdings). h.block_len) stays.held; grows = grows }

  -- what is held now is what these entries make of what was held
  pub held_by : (es : List Event) (old new : Hand D) → Makes slot (λ events. events ≡ es) old new → held_of slot new ≡ after_events (held_of slot old) es
  held_by es old new made = makes_held slot old new made ∙ ap (after_events (held_of slot old)) made.is

  pub untouched : (old new : Hand D) → new ≡ old → IsUntouched (held_of slot old) (held_of slot new) (signs_of old) (signs_of new)
  unfolding signs_of
  untouched old new same = subst (λ (o : Hand D). IsUntouched (held_of slot old) (held_of slot o) (signs_of old) (signs_of o)) (sym same) (record { held = refl; entries = ([], ap Some (sym (append-nil old.trail)), ([], refl, refl)) })

  module _ (old new : Hand D) where
    pub new_client : (c : ClientToken) (limit : ℕ) → Makes slot (λ events. events ≡ AddTracker c.tracker (held_of slot old).query limit None ∷ []) old new → IsFresh c (held_of slot old)
        → IsNewClient c limit (held_of slot old) (held_of slot new)
    new_client c limit made fresh = record {
      fresh = fresh.fresh;
      under = fresh.under;
      idle = fresh.idle;
      session = fresh.session;
      holdings = held_by (AddTracker c.tracker (held_of slot old).query limit None ∷ []) old new made ∙ (calls_tell 0 (held_of slot old)).add_client c.tracker limit;
    }

    pub new_page : (c : ClientToken) (blocks : ℕ) (page : PageToken × Buffer) → Makes slot (IsTaken c.tracker (held_of slot old) (Create page.0.name c.tracker blocks page.0.key ∷ [])) old new
        → IsFreshPage c.tracker blocks page (held_of slot old) (signs_of old) → IsNewPage c blocks page (held_of slot old) (held_of slot new)
    new_page c blocks page made fresh = record {
      fresh = fresh.fresh;
      client = fresh.client;
      buffer = fresh.buffer;
      holdings = makes_held slot old new made ∙ (calls_tell c.tracker (held_of slot old)).create page.0.name c.tracker blocks page.0.key made.events made.is;
    }

    pub new_loan : (c : ClientToken) (blocks : ℕ) (loan : LoanToken) → Makes slot (IsTaken c.tracker (held_of slot old) (Alloc loan.number c.tracker blocks ∷ [])) old new
        → IsFreshLoan c.tracker blocks loan (held_of slot old) → IsNewLoan c blocks loan (held_of slot old) (held_of slot new)
    new_loan c blocks loan made fresh = record {
      fresh = fresh.fresh;
      client = fresh.client;
      buffer = fresh.buffer;
      holdings = makes_held slot old new made ∙ (calls_tell c.tracker (held_of slot old)).alloc loan.number c.tracker blocks made.events made.is;
    }

    pub refused_untouched : {A : Type 0} (o : Option PoolErr) (r : Result A PoolErr) → IfSome o (λ e. (r ≡ Err e) × (new ≡ old))
        → IfSome o (λ e. (r ≡ Err e) × IsUntouched (held_of slot old) (held_of slot new) (signs_of old) (signs_of new))
    refused_untouched (Some e) r same = (same.0, untouched old new same.1)
    refused_untouched None r same = tt
