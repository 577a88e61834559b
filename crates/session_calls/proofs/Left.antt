-- Pages are left with their bytes, and pages and loans end.
use Rattle.std.proofs.Common.{◌≡◌, ◌↔◌, ℕ, ◌≤◌, List, [], ◌∷◌, ◌++◌, Result, Ok, Err, IsErr, IfErr, OnOk, OnErr, refl, ap, ◌∙◌, subst}
use Rattle.block_arena.specs.Memory.{Buffer}
use Rattle.outside.specs.declared.slot.Slot.{Ghosts}
use Rattle.reservation_tree.specs.declared.errors.PoolErr.{PoolErr}
use Rattle.reservation_tree.specs.declared.errors.PoolErr.TheVariants.{ScratchFull}
use Rattle.pool_model.specs.declared.event.Event.{Event}
use Rattle.pool_model.specs.declared.event.Event.TheVariants.{UnpinOnce, Unpin, UnpinRefused, Extract, Free}
use Rattle.pool_model.specs.State.{Opening, State, page_at}
use Rattle.pool_model.specs.Sums.{free_slots}
use Rattle.pool_model.specs.Owning.{IsClientOf}
use Rattle.store_api.specs.Tokens.{PageToken, LoanToken}
use Rattle.store_api.specs.Holdings.{Holdings, page_of}
use Rattle.store_api.specs.Changes.{after_unpin_once}
use Rattle.store_api.specs.Conditions.{IsPage, IsLoan}
use Rattle.store_api.specs.Entries.{by}
use Rattle.store_api.specs.Refusals.{LacksSlots, IsScratchFull}
use Rattle.own_entries.specs.OwnHoldings.{Outset, after_events}
use Rattle.own_entries.proofs.Calls.{calls_tell}
use Rattle.pin_core.specs.StateOf.{state_of}
use Rattle.pin_core.specs.Standing.{Enters}
use Rattle.pin_core.specs.calls.Lending.{free_entry}
use Rattle.pin_core.specs.calls.Unpinning.{LacksSlots as PoolLacks}
use Rattle.session_calls.proofs.Pages.{is_there, lacks_there, full_there}
use Rattle.session_calls.proofs.Loans.{loan_client}
use Rattle.session_calls.proofs.Freed.{taken_live, given_live}
use Rattle.session_calls.specs.declared.hand.Hand.{Hand}
use Rattle.session_calls.specs.Ready.{IsReady}
use Rattle.session_calls.specs.Acting.{ActsThese, Goes, held_by}
use Rattle.session_calls.proofs.Knowing.{Knows, knows}
use Rattle.session_calls.proofs.Steps.{one_ready, one_acts}

module _ {D : Type 0} (slot : Ghosts D) (o : Opening) (u : Outset) (hand new : Hand D) (is : IsReady slot o u hand) where
  abbrev s : State
  s = state_of hand.state

  abbrev held : Holdings
  held = held_by o u hand

  its : Knows o u hand
  its = knows slot o u hand is

  -- what a page's session entered is its own
  goes_page : (p : PageToken) → IsPage p held → (e : Event) → new.trail ≡ hand.trail ++ by hand.session (e ∷ []) → new.session ≡ hand.session → new.counts ≡ hand.counts
      → Enters slot (record { maker = (page_at s p.name).session; event = e } ∷ []) [] [] hand.state new.state → Goes slot (e ∷ []) hand new
  goes_page p page e trail session counts enters = record {
    trail = trail;
    session = session;
    counts = counts;
    enters = subst (λ (m : ℕ). Enters slot (by m (e ∷ [])) [] [] hand.state new.state) (is_there its p page).whose enters;
  }

  -- one of several pins ended
  pub once_ready : (p : PageToken) (name : ℕ) → IsPage p held → 2 ≤ (page_of p.name held).pins → name ≡ p.name → new.trail ≡ hand.trail ++ by hand.session (UnpinOnce name ∷ []) → new.session ≡ hand.session → new.counts ≡ hand.counts
      → Enters slot (record { maker = (page_at s p.name).session; event = UnpinOnce p.name } ∷ []) [] [] hand.state new.state → IsReady slot o u new
  once_ready p name page several same trail session counts enters =
      one_ready slot o u hand new is (UnpinOnce p.name) (goes_page p page (UnpinOnce p.name) (trail ∙ ap (λ (q : ℕ). hand.trail ++ by hand.session (UnpinOnce q ∷ [])) same) session counts enters) refl refl
      (after_unpin_once p.name held) ((calls_tell hand.session held).unpin_once p.name several) is.rests.live is.rests.few

  -- a page ended, and its buffer is a loan
  pub extracted : (p : PageToken) (name f number : ℕ) → IsPage p held → name ≡ p.name → f ≡ number → new.trail ≡ hand.trail ++ by hand.session (Extract name f ∷ []) → new.session ≡ hand.session → new.counts ≡ hand.counts
      → Enters slot (record { maker = (page_at s p.name).session; event = Extract p.name number } ∷ []) [] [] hand.state new.state → IsReady slot o u new
  extracted p name f number page same_name same_number trail session counts enters =
      let e : Event = Extract p.name number in
      let grew : new.trail ≡ hand.trail ++ by hand.session (e ∷ []) =
      trail ∙ ap (λ (q : ℕ). hand.trail ++ by hand.session (Extract q f ∷ [])) same_name ∙ ap (λ (k : ℕ). hand.trail ++ by hand.session (Extract p.name k ∷ [])) same_number in
      one_ready slot o u hand new is e (goes_page p page e grew session counts enters) refl refl (after_events held (e ∷ [])) refl (given_live (page_of p.name held) held.free_slots is.rests.live) is.rests.few

  -- a loan ended
  pub freed : (l : LoanToken) (f : ℕ) → IsLoan l held → f ≡ l.number → new.trail ≡ hand.trail ++ by hand.session (Free f ∷ []) → new.session ≡ hand.session → new.counts ≡ hand.counts
      → ((maker : ℕ) → IsClientOf s maker l.client → Enters slot (free_entry maker l.number ∷ []) [] [] hand.state new.state) → IsReady slot o u new × ActsThese (Free l.number ∷ []) hand new
  freed l f loan same trail session counts enters =
      let e : Event = Free l.number in
      let went : Goes slot (e ∷ []) hand new = record {
        trail = trail ∙ ap (λ (k : ℕ). hand.trail ++ by hand.session (Free k ∷ [])) same;
        session = session;
        counts = counts;
        enters = enters hand.session (loan_client its l loan);
      } in
      (one_ready slot o u hand new is e went refl refl (after_events held (e ∷ [])) refl is.rests.live is.rests.few, one_acts slot o u hand new is e went refl refl)

  -- bytes were left in a page, or that was refused
  module _ (p : PageToken) (page : IsPage p held) (once : (page_of p.name held).pins ≡ 1) where
    pub left_ready : {A E : Type 0} (bytes : List ℕ) (r : Result A E) → OnOk r (Goes slot (Unpin p.name bytes ∷ []) hand new) → OnErr r (Goes slot (UnpinRefused p.name ∷ []) hand new) → IsReady slot o u new
    left_ready bytes (Ok x) ok err =
        one_ready slot o u hand new is (Unpin p.name bytes) ok refl refl (after_events held (Unpin p.name bytes ∷ [])) refl (taken_live (page_of p.name held) held.free_slots is.rests.live) is.rests.few
    left_ready bytes (Err e) ok err = one_ready slot o u hand new is (UnpinRefused p.name) err refl refl held refl is.rests.live is.rests.few

    pub left_refused : {A E : Type 0} (r : Result A E) → IsErr r ↔ PoolLacks s p.name → IsErr r ↔ LacksSlots (page_of p.name held) held.free_slots
    left_refused r refused =
        let both : LacksSlots (page_of p.name held) held.free_slots ↔ PoolLacks s p.name = lacks_there its p page once in
        (λ err. both.1 (refused.0 err), λ lacks. refused.1 (both.0 lacks))

    pub left_full : {A : Type 0} (r : Result A (Buffer × PoolErr)) → IfErr r (λ e. e.1 ≡ ScratchFull (page_at s p.name).blocks (free_slots s (page_at s p.name).session))
        → IfErr r (λ e. IsScratchFull (page_of p.name held).blocks held.free_slots e.1)
    left_full (Ok x) cause = tt
    left_full (Err e) cause = full_there its p page e.1 cause
