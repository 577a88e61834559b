-- Where all slots tell what they hold and give nothing else, those that go into a job do.
use Rattle.std.proofs.Common.{◌≡◌, ℕ, zero, suc, ◌+◌, ◌<◌, Bool, true, false, List, [], ◌∷◌, length, if◌then◌else◌, refl, arith}
use Rattle.std.proofs.lemmas.List.Sums.{sum_by-cons}
use Rattle.std.specs.List.{sum_by, slice_index_or}
use Rattle.outside.specs.Slots.{KeepsStrays}
use Rattle.outside.specs.declared.slot.Slot.{Ghosts}
use Rattle.pin_core.specs.calls.Runs.{AllTell, AllGiveHeld, is_sure}
use Rattle.pin_core.specs.Tallies.{silence}
use Rattle.pin_core.proofs.Sure.{sure_tells, sure_gives}

module _ {D : Type 0} (slot : Ghosts D) where
  abbrev unless : Bool → ℕ
  unless b = if b then 0 else 1

  tells_if : (b : Bool) → unless b ≡ 0 → b ≡ true
  tells_if true none = refl
  tells_if false none = absurd (omega (arith, none))

  all_sure : (row : List D) → sum_by (silence slot) row ≡ 0 → (i : ℕ) (d : D) → i < length row → is_sure slot (slice_index_or row i d) ≡ true
  all_sure [] none i d lt = absurd (omega (arith, lt))
  all_sure (x ∷ row) none zero d lt =
      let parts : sum_by (silence slot) (x ∷ row) ≡ silence slot x + sum_by (silence slot) row = sum_by-cons (silence slot) x row in
      tells_if (is_sure slot x) (omega (arith, none, parts))
  all_sure (x ∷ row) none (suc i) d lt =
      let parts : sum_by (silence slot) (x ∷ row) ≡ silence slot x + sum_by (silence slot) row = sum_by-cons (silence slot) x row in
      all_sure row (omega (arith, none, parts)) i d (omega (arith, lt))

  pub none_silent : (row : List D) → sum_by (silence slot) row ≡ 0 → AllTell slot row
  none_silent row none = sure_tells slot row row (all_sure row none)

  -- no load of theirs strays
  pub none_strayed : (before now : List D) → sum_by (silence slot) before ≡ 0 → ((i : ℕ) (d : D) → i < length before → KeepsStrays (slot.strays (slice_index_or before i d)) (slot.strays (slice_index_or now i d))) → AllGiveHeld slot before now
  none_strayed before now none = sure_gives slot before now (all_sure before none)
