-- Each tracker with an account is that of a place, and each place has the account of its tracker. So
-- whoever goes over all places meets each tracker that has an account.
use Rattle.std.proofs.Common.{◌≡◌, ℕ, zero, suc, ◌<◌, eqb, List, [], ◌∷◌, length, IsSome, refl, inl, inr, arith}
use Rattle.std.proofs.lemmas.Bool.{cases_Bool, eqb-true, eq-eqb, false≢true}
use Rattle.pool.specs.declared.account.ClientAccount.{ClientAccount}
use Rattle.pool.specs.Unused.{tracker_at, unused_in}

pub tracker_has_place : (accounts : List ClientAccount) (t : ℕ) → IsSome (unused_in accounts t) → (place : ℕ) × (place < length accounts) × (tracker_at accounts place ≡ t)
tracker_has_place [] t there = absurd (false≢true there)
tracker_has_place (a ∷ rest) t there = elim (cases_Bool (eqb a.tracker t)) [
  | inl is ↦ (zero, omega arith, eqb-true a.tracker t is)
  | inr is ↦
      let later = tracker_has_place rest t (rw is at there) in
      (suc later.0, omega (arith, later.1), later.2)
]

pub place_has_account : (accounts : List ClientAccount) (place : ℕ) → place < length accounts → IsSome (unused_in accounts (tracker_at accounts place))
place_has_account [] place within = absurd (omega (arith, within))
place_has_account (a ∷ rest) zero within = rw (eq-eqb a.tracker a.tracker refl) refl
place_has_account (a ∷ rest) (suc place) within = elim (cases_Bool (eqb a.tracker (tracker_at rest place))) [
  | inl is ↦ rw is refl
  | inr is ↦ rw is (place_has_account rest place (omega (arith, within)))
]
