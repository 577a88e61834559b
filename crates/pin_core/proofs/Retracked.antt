-- Reservations grow, fall and move: what each leaves.
use Rattle.std.proofs.Common.{◌≡◌, ℕ, ◌<◌, List, [], ◌∷◌, None, refl, ap, sym, ◌∙◌, subst}
use Rattle.reservation_tree.specs.Tracker.{Trackers, IsLive}
use Rattle.reservation_tree.specs.Change.{grow, grow_refusal, lacking, shrink, move_to, move_refusal}
use Rattle.reservation_tree.specs.Tree.{charge_of as charge_in, with_trackers}
use Rattle.reservation_tree.proofs.Outline.{SameOutline}
use Rattle.pool_model.specs.declared.event.Event.TheVariants as event
use Rattle.pool_model.specs.declared.entry.Entry.{Entry as Event}
use Rattle.pool_model.specs.Sums.{charge_of}
use Rattle.pool_model.specs.Owning.{IsTrackerOf}
use Rattle.pool_model.specs.TrackerRows.{CanLose}
use Rattle.pool_model.specs.MayFollow.{MayFollow}
use Rattle.pool_model.specs.Effects.{after}
use Rattle.pool_model.specs.LookingBack.{left_in}
use Rattle.pool_model.specs.Sound.{IsSound}
use Rattle.pool_model.proofs.Kept.{own_live}
use Rattle.pool_model.proofs.Outlines.{grow_outline, shrink_outline, move_outline}
use Rattle.pin_core.specs.declared.parts.Parts.{Parts}
use Rattle.pin_core.specs.StateOf.{state_of}
use Rattle.pin_core.specs.Invariant.{IsKept, AreSeated}
use Rattle.pin_core.specs.Lawful.{Lawful}
use Rattle.pin_core.specs.parts.Rearranging.{retracked, grown, grown_to_fit, shrunk, transferred}
use Rattle.pin_core.proofs.Entered.{Done}
use Rattle.pin_core.proofs.Outlines.{hangs_same, client_same, count_same}
use Rattle.pin_core.proofs.Rearranged.{rearranged_done, charges_are}
use Rattle.pin_core.proofs.SeatedClients.{sound_now, page_opened}

module _ {D : Type 0} (v : Parts D) (is_kept : IsKept v) (laws : Lawful v) where
  sound : IsSound (state_of v)
  sound = sound_now (state_of v) is_kept.legal

  outlined : (ts : Trackers) → SameOutline v.tree.trackers ts → AreSeated (retracked ts v)
  outlined ts same = let s = is_kept.seated in record {
    clients = λ m x is t. s.clients m x is t ∙ sym (hangs_same v.tree.trackers ts same x.query t);
    opens = λ c. s.opens c ∙ sym (client_same v.tree.trackers ts same c);
    few = count_same v.tree.trackers ts same ∙ s.few;
  }

  -- reservations changed as this event tells
  retracked_done : (ts : Trackers) (e : Event) → SameOutline v.tree.trackers ts → state_of (retracked ts v) ≡ after (state_of v) e
      → ((h : List Event) → MayFollow h (state_of v) e) → ((q : ℕ) (old : List ℕ) → left_in q e.event old ≡ old) → Done (e ∷ []) [] [] v (retracked ts v)
  retracked_done ts e same state may leaves = rearranged_done (with_trackers ts v.tree) v.lists.is_open v.slots.quotas v.slots.spare v.seats v e is_kept (record {
    charges = λ t. refl;
    opened = page_opened v is_kept laws;
    lent = is_kept.counted.quotas;
    seated = outlined ts same;
    clients = refl;
    sessions = refl;
    state = state;
    may = may;
    leaves = leaves;
  })

  module _ (s : ℕ) (low : s < 240) (t bytes : ℕ) (own : IsTrackerOf (state_of v) s t) where
    live : IsLive v.tree.trackers t
    live = own_live (state_of v) sound s t own

    grows : (f : ℕ → ℕ) → f ≡ charge_of (state_of v) → (n : ℕ) → grow_refusal f n t v.tree.trackers ≡ None → SameOutline v.tree.trackers (grow f n t v.tree.trackers)
    grows f is n fits = subst (λ (g : ℕ → ℕ). SameOutline v.tree.trackers (grow g n t v.tree.trackers)) (sym is)
        (grow_outline (state_of v) sound t n live (subst (λ (g : ℕ → ℕ). grow_refusal g n t v.tree.trackers ≡ None) is fits))

    pub grown_done : grow_refusal (charge_in v.tree) bytes t v.tree.trackers ≡ None → Done (record { maker = s; event = event.Increase t bytes } ∷ []) [] [] v (grown t bytes v)
    grown_done fits =
        let same : charge_in v.tree ≡ charge_of (state_of v) = charges_are v is_kept in
        retracked_done (grow (charge_in v.tree) bytes t v.tree.trackers) (record { maker = s; event = event.Increase t bytes }) (grows (charge_in v.tree) same bytes fits)
        (ap (λ (f : ℕ → ℕ). state_of (retracked (grow f bytes t v.tree.trackers) v)) same)
        (λ h. record { makes = low; allows = record { own = own; fits = subst (λ (f : ℕ → ℕ). grow_refusal f bytes t v.tree.trackers ≡ None) same fits } })
        (λ q old. refl)

    pub fit_done : grow_refusal (charge_in v.tree) (lacking (charge_in v.tree) bytes t v.tree.trackers) t v.tree.trackers ≡ None
        → Done (record { maker = s; event = event.IncreaseToFit t bytes } ∷ []) [] [] v (grown_to_fit t bytes v)
    fit_done fits =
        let same : charge_in v.tree ≡ charge_of (state_of v) = charges_are v is_kept in
        retracked_done (grow (charge_in v.tree) (lacking (charge_in v.tree) bytes t v.tree.trackers) t v.tree.trackers) (record { maker = s; event = event.IncreaseToFit t bytes })
        (grows (charge_in v.tree) same (lacking (charge_in v.tree) bytes t v.tree.trackers) fits)
        (ap (λ (f : ℕ → ℕ). state_of (retracked (grow f (lacking f bytes t v.tree.trackers) t v.tree.trackers) v)) same)
        (λ h. record { makes = low; allows = record { own = own; fits = subst (λ (f : ℕ → ℕ). grow_refusal f (lacking f bytes t v.tree.trackers) t v.tree.trackers ≡ None) same fits } })
        (λ q old. refl)

    pub shrunk_done : CanLose (state_of v) t bytes → Done (record { maker = s; event = event.Decrease t bytes } ∷ []) [] [] v (shrunk t bytes v)
    shrunk_done spare =
        retracked_done (shrink bytes t v.tree.trackers) (record { maker = s; event = event.Decrease t bytes }) (shrink_outline (state_of v) sound t bytes live spare.unused)
        refl (λ h. record { makes = low; allows = record { own = own; spare = spare } }) (λ q old. refl)

    pub transferred_done : (to : ℕ) → IsTrackerOf (state_of v) s to → CanLose (state_of v) t bytes → move_refusal bytes t to v.tree.trackers ≡ None
        → Done (record { maker = s; event = event.MoveReservation t to bytes } ∷ []) [] [] v (transferred t to bytes v)
    transferred_done to own_to spare fits =
        let live_to : IsLive v.tree.trackers to = own_live (state_of v) sound s to own_to in
        retracked_done (move_to bytes t to v.tree.trackers) (record { maker = s; event = event.MoveReservation t to bytes })
        (move_outline (state_of v) sound t to bytes live live_to spare.unused fits)
        refl (λ h. record { makes = low; allows = record { own = own; own_to = own_to; spare = spare; fits = fits } }) (λ q old. refl)
