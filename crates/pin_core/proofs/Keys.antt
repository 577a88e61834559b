-- The key of a page by its name.
use Rattle.std.proofs.Common.{◌≡◌, ℕ, zero, suc, ◌<◌, ◌==◌, Bool, true, false, if◌then◌else◌, Option, Some, None, refl, ap, sym, ◌∙◌, subst, inl, inr, arith, eqb-true, eq-eqb}
use Rattle.std.specs.Ordering.{nat_cmp}
use Rattle.std.specs.FinMap.{FinMap, get}
use Rattle.std.proofs.lemmas.Bool.{false≢true, cases_Bool}
use Rattle.reservation_tree.proofs.Maps.{same_or_other}
use Rattle.pin_core.specs.StateOf.{has_name, key_below, key_in}

named : (names : FinMap nat_cmp ℕ) (name key : ℕ) → get names key ≡ Some name → has_name names name key ≡ true
named names name key is = ap (λ (o : Option ℕ). elim o [ None ↦ false | Some found ↦ found == name ]) is ∙ eq-eqb name name refl

name_there : (o : Option ℕ) (name : ℕ) → elim o [ None ↦ false | Some found ↦ found == name ] ≡ true → o ≡ Some name
name_there None name is = absurd (false≢true is)
name_there (Some found) name is = ap Some (eqb-true found name is)

module _ (names : FinMap nat_cmp ℕ) (name key : ℕ) (is : get names key ≡ Some name) (alone : (k : ℕ) → get names k ≡ Some name → k ≡ key) where
  found_below : (n : ℕ) → key < n → key_below names name n ≡ key
  found_below zero lt = absurd (omega (arith, lt))
  found_below (suc n) lt = elim (cases_Bool (has_name names name n)) [
    | inl is_so ↦ ap (λ (b : Bool). if b then n else key_below names name n) is_so ∙ alone n (name_there (get names n) name is_so)
    | inr not_so ↦
        ap (λ (b : Bool). if b then n else key_below names name n) not_so
        ∙ elim (same_or_other key n) [
          | inl same ↦ absurd (false≢true (sym not_so ∙ subst (λ (k : ℕ). has_name names name k ≡ true) same (named names name key is)))
          | inr apart ↦ found_below n (omega (arith, lt, apart))
        ]
  ]

  pub key_is : (room : ℕ) → key < room → key_in names room name ≡ key
  unfolding key_in
  key_is room lt = found_below room lt
