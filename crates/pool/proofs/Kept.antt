-- Each change leaves the accounts proper.
use Rattle.std.proofs.Common.{◌≡◌, ℕ, ◌<◌, false, eqb, List, [], ◌∷◌, ◌++◌, length, None, IsSome, refl, ap, sym, ◌∙◌, subst, inl, inr, arith}
use Rattle.std.specs.Cmp.{nat_eq_equiv}
use Rattle.std.specs.List.{IsDistinct, AllByRecursion, list_any}
use Rattle.std.proofs.lemmas.Bool.{cases_Bool}
use Rattle.std.proofs.lemmas.List.{map-append, length-append, length-map}
use Rattle.std.proofs.lemmas.Map.Keys.{IsDistinct-push}
use Rattle.pool.specs.declared.account.ClientAccount.{ClientAccount}
use Rattle.pool.specs.Unused.{AreProper, trackers_of, unused_in, with_unused}
use Rattle.pool.proofs.Changes.{unlike_first, none_later, none_after_first, trackers_written, without, unused_removed, length_removed}

pub proper_empty : AreProper []
unfolding IsDistinct
proper_empty = record { few = omega arith; distinct = tt }

untold : (accounts : List ClientAccount) (k : ℕ) → unused_in accounts k ≡ None → list_any (eqb k) (trackers_of accounts) ≡ false
untold [] k none = refl
untold (a ∷ rest) k none =
    let other : eqb k a.tracker ≡ false = nat_eq_equiv.symm k a.tracker ∙ unlike_first a rest k none in
    rw other (untold rest k (none_later a rest k none))

pub proper_added : (accounts : List ClientAccount) (new : ClientAccount) → AreProper accounts → length accounts < 16 → unused_in accounts new.tracker ≡ None → AreProper (accounts ++ new ∷ [])
proper_added accounts new proper room none = record {
  few = omega (arith, length-append accounts (new ∷ []), room);
  distinct = subst (λ (ts : List ℕ). IsDistinct eqb ts) (sym (map-append (λ (a : ClientAccount). a.tracker) accounts (new ∷ []))) (IsDistinct-push nat_eq_equiv (trackers_of accounts) new.tracker proper.distinct (untold accounts new.tracker none));
}

length_written : (accounts : List ClientAccount) (place bytes : ℕ) → length (with_unused place bytes accounts) ≡ length accounts
length_written accounts place bytes =
    let tracker_count = λ (some : List ClientAccount). length-map some (λ (a : ClientAccount). a.tracker) in
    sym (tracker_count (with_unused place bytes accounts)) ∙ ap length (trackers_written accounts place bytes) ∙ tracker_count accounts

pub proper_written : (accounts : List ClientAccount) (place bytes : ℕ) → AreProper accounts → AreProper (with_unused place bytes accounts)
proper_written accounts place bytes proper = record {
  few = omega (arith, length_written accounts place bytes, proper.few);
  distinct = subst (λ (ts : List ℕ). IsDistinct eqb ts) (sym (trackers_written accounts place bytes)) proper.distinct;
}

apart_none : (accounts : List ClientAccount) (k : ℕ) → unused_in accounts k ≡ None → AllByRecursion (λ q. eqb k q ≡ false) (trackers_of accounts)
apart_none [] k none = tt
apart_none (a ∷ rest) k none = (nat_eq_equiv.symm k a.tracker ∙ unlike_first a rest k none, apart_none rest k (none_later a rest k none))

still_none : (accounts : List ClientAccount) (k t : ℕ) → unused_in accounts t ≡ None → unused_in (without k accounts) t ≡ None
still_none accounts k t none = unused_removed accounts k t ∙ elim (cases_Bool (eqb t k)) [ inl is ↦ rw is refl | inr is ↦ rw is none ]

distinct_removed : (accounts : List ClientAccount) (k : ℕ) → IsDistinct eqb (trackers_of accounts) → IsDistinct eqb (trackers_of (without k accounts))
unfolding IsDistinct
distinct_removed [] k distinct = tt
distinct_removed (a ∷ rest) k distinct = elim (cases_Bool (eqb a.tracker k)) [
  | inl gone ↦ rw gone (distinct_removed rest k distinct.1)
  | inr stays ↦ rw stays (apart_none (without k rest) a.tracker (still_none rest k a.tracker (none_after_first a rest distinct)), distinct_removed rest k distinct.1)
]

pub proper_removed : (accounts : List ClientAccount) (k : ℕ) → AreProper accounts → IsSome (unused_in accounts k) → AreProper (without k accounts)
proper_removed accounts k proper there = record {
  few = omega (arith, length_removed accounts proper.distinct k there, proper.few);
  distinct = distinct_removed accounts k proper.distinct;
}
