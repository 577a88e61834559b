-- What calls leave that let reservations grow, fall and move.
use Rattle.std.proofs.Common.{◌≡◌, ◌↔◌, ℕ, ◌<◌, ◌≤◌, [], ◌∷◌, Option, Some, None, IsSome, Result, OnOk, OnErr, IsErr, refl, ap, sym, ◌∙◌, subst, inr}
use Rattle.reservation_tree.specs.Tracker.{unused}
use Rattle.reservation_tree.specs.Change.{grow_refusal, lacking, move_refusal}
use Rattle.reservation_tree.specs.Tree.{charge_of as charge_in}
use Rattle.pool_model.specs.Sums.{charge_of, HasRoom}
use Rattle.pool_model.specs.Owning.{IsClientOf}
use Rattle.pin_core.specs.declared.parts.Parts.{Parts}
use Rattle.pin_core.specs.StateOf.{state_of}
use Rattle.pin_core.specs.Invariant.{IsKept}
use Rattle.pin_core.specs.Lawful.{Lawful}
use Rattle.pin_core.specs.parts.Rearranging.{grown, grown_to_fit, shrunk, transferred}
use Rattle.pin_core.specs.calls.Entering.{increase_entry, fit_entry, decrease_entry, move_entry, growth_refusal, fit_refusal}
use Rattle.pin_core.proofs.Entered.{Done, Answered, answered}
use Rattle.pin_core.proofs.Rearranged.{charges_are}
use Rattle.pin_core.proofs.SeatedClients.{has_seat}
use Rattle.pin_core.proofs.Retracked.{grown_done, fit_done, shrunk_done, transferred_done}

pub nothing : {X : Type 0} (o : Option X) → (IsSome o → ⊥) → o ≡ None
nothing None never = refl
nothing (Some x) never = absurd (never refl)

module _ {D : Type 0} where
  client_low : (v : Parts D) → Lawful v → (s c : ℕ) → IsClientOf (state_of v) s c → s < 240
  client_low v laws s c client = (has_seat v.seats laws.seats s client.session client.opened).low

  module _ {A E : Type 0} (v old : Parts D) (same : v ≡ old) (is_kept : IsKept v) (laws : Lawful v) (s t c bytes : ℕ) (named : t ≡ c) (client : IsClientOf (state_of old) s c)
      (r : Result A E) (new : Parts D) where
    client_now : IsClientOf (state_of v) s t
    client_now = subst (λ (z : Parts D). IsClientOf (state_of z) s t) (sym same) (subst (IsClientOf (state_of old) s) (sym named) client)

    low : s < 240
    low = client_low v laws s t client_now

    pub grown_answer : OnOk r (new ≡ grown t bytes v) → OnErr r (new ≡ v) → (IsErr r ↔ IsSome (grow_refusal (charge_in v.tree) bytes t v.tree.trackers))
        → Answered r (increase_entry s c bytes ∷ []) old new
    grown_answer ok err refused =
        subst (λ (z : Parts D). Answered r (increase_entry s c bytes ∷ []) z new) same
        (subst (λ (k : ℕ). Answered r (increase_entry s k bytes ∷ []) v new) named
        (answered r (increase_entry s t bytes ∷ []) v (grown t bytes v) new is_kept ok err (λ fits. grown_done v is_kept laws s low t bytes (inr client_now) (nothing _ (λ some. fits (refused.1 some))))))

    pub fit_answer : OnOk r (new ≡ grown_to_fit t bytes v) → OnErr r (new ≡ v)
        → (IsErr r ↔ IsSome (grow_refusal (charge_in v.tree) (lacking (charge_in v.tree) bytes t v.tree.trackers) t v.tree.trackers))
        → Answered r (fit_entry s c bytes ∷ []) old new
    fit_answer ok err refused =
        subst (λ (z : Parts D). Answered r (fit_entry s c bytes ∷ []) z new) same
        (subst (λ (k : ℕ). Answered r (fit_entry s k bytes ∷ []) v new) named
        (answered r (fit_entry s t bytes ∷ []) v (grown_to_fit t bytes v) new is_kept ok err (λ fits. fit_done v is_kept laws s low t bytes (inr client_now) (nothing _ (λ some. fits (refused.1 some))))))

    -- the refusals, as the model's state shows them
    pub grown_refused : (IsErr r ↔ IsSome (grow_refusal (charge_in v.tree) bytes t v.tree.trackers)) → (IsErr r ↔ IsSome (growth_refusal (state_of old) c bytes))
    grown_refused refused =
        subst (λ (z : Parts D). IsErr r ↔ IsSome (growth_refusal (state_of z) c bytes)) same
        (subst (λ (k : ℕ). IsErr r ↔ IsSome (growth_refusal (state_of v) k bytes)) named
        (subst (λ (f : ℕ → ℕ). IsErr r ↔ IsSome (grow_refusal f bytes t v.tree.trackers)) (charges_are v is_kept) refused))

    pub fit_refused : (IsErr r ↔ IsSome (grow_refusal (charge_in v.tree) (lacking (charge_in v.tree) bytes t v.tree.trackers) t v.tree.trackers)) → (IsErr r ↔ IsSome (fit_refusal (state_of old) c bytes))
    fit_refused refused =
        subst (λ (z : Parts D). IsErr r ↔ IsSome (fit_refusal (state_of z) c bytes)) same
        (subst (λ (k : ℕ). IsErr r ↔ IsSome (fit_refusal (state_of v) k bytes)) named
        (subst (λ (f : ℕ → ℕ). IsErr r ↔ IsSome (grow_refusal f (lacking f bytes t v.tree.trackers) t v.tree.trackers)) (charges_are v is_kept) refused))

  module _ (v old : Parts D) (same : v ≡ old) (is_kept : IsKept v) (laws : Lawful v) (s t c bytes : ℕ) (named : t ≡ c) (client : IsClientOf (state_of old) s c)
      (spare : bytes ≤ unused (charge_of (state_of old)) old.tree.trackers c) (room : HasRoom (state_of old) c bytes) where
    pub shrunk_answer : (new : Parts D) → new ≡ shrunk t bytes v → Done (decrease_entry s c bytes ∷ []) [] [] old new
    shrunk_answer new is =
        let now : IsClientOf (state_of v) s c = subst (λ (z : Parts D). IsClientOf (state_of z) s c) (sym same) client in
        let spare_now : bytes ≤ unused (charge_of (state_of v)) v.tree.trackers c = subst (λ (z : Parts D). bytes ≤ unused (charge_of (state_of z)) z.tree.trackers c) (sym same) spare in
        let room_now : HasRoom (state_of v) c bytes = subst (λ (z : Parts D). HasRoom (state_of z) c bytes) (sym same) room in
        subst (λ (z : Parts D). Done (decrease_entry s c bytes ∷ []) [] [] z new) same
        (subst (λ (z : Parts D). Done (decrease_entry s c bytes ∷ []) [] [] v z) (sym (is ∙ ap (λ (k : ℕ). shrunk k bytes v) named))
        (shrunk_done v is_kept laws s (client_low v laws s c now) c bytes (inr now) (record { unused = spare_now; held = λ _. room_now })))

    pub transferred_answer : {A E : Type 0} (u to : ℕ) → u ≡ to → IsClientOf (state_of old) s to → (r : Result A E) (new : Parts D)
        → OnOk r (new ≡ transferred t u bytes v) → OnErr r (new ≡ v) → (IsErr r ↔ IsSome (move_refusal bytes t u v.tree.trackers)) → Answered r (move_entry s c to bytes ∷ []) old new
    transferred_answer u to named_to client_to r new ok err refused =
        let now : IsClientOf (state_of v) s t = subst (λ (z : Parts D). IsClientOf (state_of z) s t) (sym same) (subst (IsClientOf (state_of old) s) (sym named) client) in
        let now_to : IsClientOf (state_of v) s u = subst (λ (z : Parts D). IsClientOf (state_of z) s u) (sym same) (subst (IsClientOf (state_of old) s) (sym named_to) client_to) in
        let spare_now : bytes ≤ unused (charge_of (state_of v)) v.tree.trackers t =
        subst (λ (z : Parts D). bytes ≤ unused (charge_of (state_of z)) z.tree.trackers t) (sym same) (subst (λ (k : ℕ). bytes ≤ unused (charge_of (state_of old)) old.tree.trackers k) (sym named) spare) in
        let room_now : HasRoom (state_of v) t bytes = subst (λ (z : Parts D). HasRoom (state_of z) t bytes) (sym same) (subst (λ (k : ℕ). HasRoom (state_of old) k bytes) (sym named) room) in
        subst (λ (z : Parts D). Answered r (move_entry s c to bytes ∷ []) z new) same
        (subst (λ (k : ℕ). Answered r (move_entry s c k bytes ∷ []) v new) named_to
        (subst (λ (k : ℕ). Answered r (move_entry s k u bytes ∷ []) v new) named
        (answered r (move_entry s t u bytes ∷ []) v (transferred t u bytes v) new is_kept ok err (λ fits.
        transferred_done v is_kept laws s (client_low v laws s t now) t bytes (inr now) u (inr now_to) (record { unused = spare_now; held = λ _. room_now }) (nothing _ (λ some. fits (refused.1 some)))))))
