-- Why a session is refused, as the pool tells of its numbers and of its root.
use Rattle.std.proofs.Common.{◌≡◌, ◌↔◌, ℕ, ◌-◌, ◌<◌, ◌≤◌, true, false, Option, Some, None, IsSome, IfSome, is_some, refl, sym, ap, ◌∙◌, inl, inr, arith}
use Rattle.std.proofs.lemmas.Bool.{false≢true}
use Rattle.session_table.specs.Seats.{seat_of}
use Rattle.reservation_tree.specs.Tracker.{limit_of, reservation_of, room_of}
use Rattle.reservation_tree.specs.declared.errors.PoolErr.TheVariants.{NoReservation}
use Rattle.pool_model.specs.State.{State}
use Rattle.pin_core.specs.declared.parts.Parts.{Parts}
use Rattle.pin_core.specs.StateOf.{state_of}
use Rattle.pin_core.specs.calls.Sessions.{IsFull}
use Rattle.pin_core.specs.calls.Entering.{unused_of}
use Rattle.pin_core.specs.calls.Opening.{root_growth}
use Rattle.pin_core.proofs.Begun.{full_now, not_full}
use Rattle.pool.specs.Seating.{IsSessionRefusal, MustTurnAway}

module _ {D : Type 0} (v old : Parts D) (same : v ≡ old) where
  -- no number was found, so each has a session
  pub full : (found : Option ℕ) → is_some found ≡ false → ((found ≡ None) ↔ ((m : ℕ) → m < 240 → IsSome (seat_of v.seats m))) → IsFull (state_of old)
  full None is when = full_now v old same (when.0 refl)
  full (Some m) is when = absurd (false≢true (sym is))

  -- a number was found that has none
  pub vacant : (found : Option ℕ) → is_some found ≡ true → IfSome found (λ m. (m < 240) × (seat_of v.seats m ≡ None)) → IsFull (state_of old) → ⊥
  vacant None is none = absurd (false≢true is)
  vacant (Some m) is none = not_full v old same m none.0 none.1

-- what was read of the root: its number, what it has unused, its limit and its reservation
module _ (s : State) (limit least root unused growth most has : ℕ) (first : root ≡ 0) (free : unused ≡ unused_of s root) (lacks : growth ≡ least - unused) (top : most ≡ limit_of s.trackers root) (set : has ≡ reservation_of s.trackers root) where
  growth_is : growth ≡ root_growth s least
  growth_is = lacks ∙ ap (λ (n : ℕ). least - n) (free ∙ ap (unused_of s) first)

  room_is : most - has ≡ room_of s.trackers 0
  room_is =
      let upper : most ≡ limit_of s.trackers 0 = top ∙ ap (limit_of s.trackers) first in
      let lower : has ≡ reservation_of s.trackers 0 = set ∙ ap (reservation_of s.trackers) first in
      ap (λ (n : ℕ). n - has) upper ∙ ap (λ (n : ℕ). limit_of s.trackers 0 - n) lower

  pub refused : (IsFull s → ⊥) → least ≤ limit → most - has < growth → IsSessionRefusal s limit least (NoReservation root growth (most - has))
  refused never fits less = (never, inr (fits, let a = growth_is in let b = room_is in omega (arith, a, b, less), first, growth_is, room_is))

  pub granted : (IsFull s → ⊥) → least ≤ limit → growth ≤ most - has → MustTurnAway s limit least → ⊥
  granted never fits enough (inl all) = never all
  granted never fits enough (inr (inl over)) = omega (arith, fits, over)
  granted never fits enough (inr (inr over)) = let a = growth_is in let b = room_is in omega (arith, a, b, enough, over)
