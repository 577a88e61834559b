-- What each change of the accounts leaves, by trackers.
use Rattle.std.proofs.Common.{◌≡◌, ℕ, zero, suc, ◌+◌, ◌<◌, ◌==◌, true, false, not, eqb, if◌then◌else◌, List, [], ◌∷◌, ◌++◌, length, filter, None, Some, IsSome, is_some, refl, ap, sym, ◌∙◌, subst, inl, inr, arith, Option}
use Rattle.std.specs.Cmp.{nat_eq_equiv}
use Rattle.std.specs.List.{IsDistinct, AllByRecursion}
use Rattle.std.proofs.lemmas.Bool.{cases_Bool, eqb-true, false≢true}
use Rattle.std.proofs.lemmas.Map.Keys.{IsDistinct-head, IsDistinct-tail}
use Rattle.pool.specs.declared.account.ClientAccount.{ClientAccount}
use Rattle.pool.specs.Unused.{trackers_of, tracker_at, unused_in, with_unused}
use Rattle.pool.proofs.Places.{place_has_account}

not_both : (o : Option ℕ) → o ≡ None → IsSome o → ⊥
not_both o none there = false≢true (sym (ap (λ (p : Option ℕ). is_some p) none) ∙ there)

module _ (a : ClientAccount) (rest : List ClientAccount) (k : ℕ) where
  here : eqb a.tracker k ≡ true → IsSome (unused_in (a ∷ rest) k)
  here is = rw is refl

  -- a tracker without an account isn't the first one's
  pub unlike_first : unused_in (a ∷ rest) k ≡ None → eqb a.tracker k ≡ false
  unlike_first none = elim (cases_Bool (eqb a.tracker k)) [ inl is ↦ absurd (not_both (unused_in (a ∷ rest) k) none (here is)) | inr is ↦ is ]

  pub none_later : unused_in (a ∷ rest) k ≡ None → unused_in rest k ≡ None
  none_later none = let other = unlike_first none in rw other at none

-- a tracker that comes once has no other account
pub none_apart : (accounts : List ClientAccount) (k : ℕ) → AllByRecursion (λ q. eqb k q ≡ false) (trackers_of accounts) → unused_in accounts k ≡ None
none_apart [] k apart = refl
none_apart (a ∷ rest) k apart =
    let other : eqb a.tracker k ≡ false = nat_eq_equiv.symm a.tracker k ∙ apart.0 in
    rw other (none_apart rest k apart.1)

pub none_after_first : (a : ClientAccount) (rest : List ClientAccount) → IsDistinct eqb (trackers_of (a ∷ rest)) → unused_in rest a.tracker ≡ None
none_after_first a rest distinct = none_apart rest a.tracker (IsDistinct-head eqb a.tracker (trackers_of rest) distinct)

unlike_at : (accounts : List ClientAccount) (k place : ℕ) → unused_in accounts k ≡ None → place < length accounts → eqb k (tracker_at accounts place) ≡ false
unlike_at accounts k place none within = elim (cases_Bool (eqb k (tracker_at accounts place))) [
  | inl is ↦
      let there : IsSome (unused_in accounts k) = subst (λ (q : ℕ). IsSome (unused_in accounts q)) (sym (eqb-true k (tracker_at accounts place) is)) (place_has_account accounts place within) in
      absurd (not_both (unused_in accounts k) none there)
  | inr is ↦ is
]

-- one account more
pub unused_added : (accounts : List ClientAccount) (k bytes : ℕ) → unused_in accounts k ≡ None → (t : ℕ) → unused_in (accounts ++ record { tracker = k; unused = bytes } ∷ []) t ≡ (if t == k then Some bytes else unused_in accounts t)
unused_added [] k bytes none t =
    let flip : eqb t k ≡ eqb k t = nat_eq_equiv.symm t k in
    elim (cases_Bool (eqb k t)) [ inl is ↦ rw (flip, is) refl | inr is ↦ rw (flip, is) refl ]
unused_added (a ∷ rest) k bytes none t = elim (cases_Bool (eqb a.tracker t)) [
  | inl is ↦
      let other : eqb t k ≡ false = subst (λ (q : ℕ). eqb q k ≡ false) (eqb-true a.tracker t is) (unlike_first a rest k none) in
      rw (is, other) refl
  | inr is ↦ rw is (unused_added rest k bytes (none_later a rest k none) t)
]

-- the account at a place is written
pub unused_written : (accounts : List ClientAccount) → IsDistinct eqb (trackers_of accounts) → (place bytes : ℕ) → place < length accounts → (t : ℕ) → unused_in (with_unused place bytes accounts) t ≡ (if t == tracker_at accounts place then Some bytes else unused_in accounts t)
unused_written [] distinct place bytes within t = absurd (omega (arith, within))
unused_written (a ∷ rest) distinct zero bytes within t =
    let flip : eqb t a.tracker ≡ eqb a.tracker t = nat_eq_equiv.symm t a.tracker in
    elim (cases_Bool (eqb a.tracker t)) [ inl is ↦ rw (flip, is) refl | inr is ↦ rw (flip, is) refl ]
unused_written (a ∷ rest) distinct (suc place) bytes within t =
    let inside : place < length rest = omega (arith, within) in
    elim (cases_Bool (eqb a.tracker t)) [
      | inl is ↦
          let other : eqb t (tracker_at rest place) ≡ false = subst (λ (q : ℕ). eqb q (tracker_at rest place) ≡ false) (eqb-true a.tracker t is) (unlike_at rest a.tracker place (none_after_first a rest distinct) inside) in
          rw (is, other) refl
      | inr is ↦ rw is (unused_written rest (IsDistinct-tail eqb a.tracker (trackers_of rest) distinct) place bytes inside t)
    ]

pub trackers_written : (accounts : List ClientAccount) (place bytes : ℕ) → trackers_of (with_unused place bytes accounts) ≡ trackers_of accounts
trackers_written [] place bytes = refl
trackers_written (a ∷ rest) zero bytes = refl
trackers_written (a ∷ rest) (suc place) bytes = ap (λ (ts : List ℕ). a.tracker ∷ ts) (trackers_written rest place bytes)

-- the accounts but those of a tracker
abbrev pub without : ℕ → List ClientAccount → List ClientAccount
without k accounts = filter (λ a. not (eqb a.tracker k)) accounts

pub unused_removed : (accounts : List ClientAccount) (k t : ℕ) → unused_in (without k accounts) t ≡ (if t == k then None else unused_in accounts t)
unused_removed [] k t = elim (cases_Bool (eqb t k)) [ inl is ↦ rw is refl | inr is ↦ rw is refl ]
unused_removed (a ∷ rest) k t =
    let more = unused_removed rest k t in
    elim (cases_Bool (eqb a.tracker k)) [
      | inl gone ↦ elim (cases_Bool (eqb t k)) [
        | inl is ↦ rw (gone, is) (rw is at more)
        | inr is ↦
            let other : eqb a.tracker t ≡ false = nat_eq_equiv.symm a.tracker t ∙ subst (λ (q : ℕ). eqb t q ≡ false) (sym (eqb-true a.tracker k gone)) is in
            rw (gone, is, other) (rw is at more)
      ]
      | inr stays ↦ elim (cases_Bool (eqb a.tracker t)) [
        | inl is ↦
            let other : eqb t k ≡ false = subst (λ (q : ℕ). eqb q k ≡ false) (eqb-true a.tracker t is) stays in
            rw (stays, is, other) refl
        | inr is ↦ rw (stays, is) more
      ]
    ]

none_removed : (accounts : List ClientAccount) (k : ℕ) → unused_in accounts k ≡ None → without k accounts ≡ accounts
none_removed [] k none = refl
none_removed (a ∷ rest) k none = rw (unlike_first a rest k none) (ap (λ (more : List ClientAccount). a ∷ more) (none_removed rest k (none_later a rest k none)))

-- one account fewer, where there was one
pub length_removed : (accounts : List ClientAccount) → IsDistinct eqb (trackers_of accounts) → (k : ℕ) → IsSome (unused_in accounts k) → length (without k accounts) + 1 ≡ length accounts
length_removed [] distinct k there = absurd (false≢true there)
length_removed (a ∷ rest) distinct k there = elim (cases_Bool (eqb a.tracker k)) [
  | inl gone ↦
      let alone : unused_in rest k ≡ None = subst (λ (q : ℕ). unused_in rest q ≡ None) (eqb-true a.tracker k gone) (none_after_first a rest distinct) in
      let same = ap length (none_removed rest k alone) in
      rw gone (omega (arith, same))
  | inr stays ↦
      let fewer = length_removed rest (IsDistinct-tail eqb a.tracker (trackers_of rest) distinct) k (rw stays at there) in
      rw stays (omega (arith, fewer))
]
