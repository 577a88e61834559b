-- A list where the value at one place changed, and sums over it.
use Rattle.std.proofs.Common.{◌≡◌, ◌≢◌, ◌∙◌, ℕ, zero, suc, ◌+◌, List, [], ◌∷◌, length, Some, refl, ap, sym, subst, inl, inr, arith}
use Rattle.std.specs.Prelude.{set}
use Rattle.std.specs.List.{slice_get, sum_by}
use Rattle.std.proofs.lemmas.Bool.{cases_eq}
use Rattle.std.proofs.lemmas.Option.{none-some, same_Some}
use Rattle.std.proofs.lemmas.List.Sums.{sum_by-cons}

suc_same : (j i : ℕ) → suc j ≡ suc i → j ≡ i
suc_same j i same = omega (arith, same)

module _ {X : Type 0} where
  pub set_here : (xs : List X) (i : ℕ) (x y : X) → slice_get xs i ≡ Some x → slice_get (set xs i y) i ≡ Some y
  set_here [] i x y at = absurd (none-some x at)
  set_here (z ∷ xs) zero x y at = refl
  set_here (z ∷ xs) (suc i) x y at = set_here xs i x y at

  pub set_there : (xs : List X) (i j : ℕ) (y : X) → j ≢ i → slice_get (set xs i y) j ≡ slice_get xs j
  set_there [] i j y apart = refl
  set_there (z ∷ xs) zero zero y apart = absurd (apart refl)
  set_there (z ∷ xs) zero (suc j) y apart = refl
  set_there (z ∷ xs) (suc i) zero y apart = refl
  set_there (z ∷ xs) (suc i) (suc j) y apart = set_there xs i j y (λ same. apart (ap suc same))

  pub set_long : (xs : List X) (i : ℕ) (y : X) → length (set xs i y) ≡ length xs
  set_long [] i y = refl
  set_long (z ∷ xs) zero y = refl
  set_long (z ∷ xs) (suc i) y = ap suc (set_long xs i y)

  pub sum_each : (f g : X → ℕ) (xs : List X) → ((j : ℕ) (z : X) → slice_get xs j ≡ Some z → g z ≡ f z) → sum_by g xs ≡ sum_by f xs
  sum_each f g [] same = refl
  sum_each f g (z ∷ xs) same =
      let head : g z ≡ f z = same 0 z refl in
      let rest : sum_by g xs ≡ sum_by f xs = sum_each f g xs (λ j w there. same (suc j) w there) in
      let now : sum_by g (z ∷ xs) ≡ g z + sum_by g xs = sum_by-cons g z xs in
      let was : sum_by f (z ∷ xs) ≡ f z + sum_by f xs = sum_by-cons f z xs in
      omega (arith, head, rest, now, was)

  -- where the others count for what they did
  pub sum_set : (f g : X → ℕ) (xs : List X) (i : ℕ) (x y : X) → slice_get xs i ≡ Some x → ((j : ℕ) (z : X) → j ≢ i → slice_get xs j ≡ Some z → g z ≡ f z) → sum_by g (set xs i y) + f x ≡ sum_by f xs + g y
  sum_set f g [] i x y at others = absurd (none-some x at)
  sum_set f g (z ∷ xs) zero x y at others =
      let same : z ≡ x = same_Some z x at in
      let rest : sum_by g xs ≡ sum_by f xs = sum_each f g xs (λ j w there. others (suc j) w (λ none. omega (arith, none)) there) in
      let now : sum_by g (y ∷ xs) ≡ g y + sum_by g xs = sum_by-cons g y xs in
      let was : sum_by f (z ∷ xs) ≡ f z + sum_by f xs = sum_by-cons f z xs in
      let head : f z ≡ f x = ap f same in
      omega (arith, rest, now, was, head)
  sum_set f g (z ∷ xs) (suc i) x y at others =
      let rest : sum_by g (set xs i y) + f x ≡ sum_by f xs + g y = sum_set f g xs i x y at (λ j w apart there. others (suc j) w (λ same. apart (suc_same j i same)) there) in
      let head : g z ≡ f z = others 0 z (λ none. omega (arith, none)) refl in
      let now : sum_by g (z ∷ set xs i y) ≡ g z + sum_by g (set xs i y) = sum_by-cons g z (set xs i y) in
      let was : sum_by f (z ∷ xs) ≡ f z + sum_by f xs = sum_by-cons f z xs in
      omega (arith, rest, head, now, was)

-- the others are as they were
module _ {X : Type 0} (xs : List X) {x : X} (i : ℕ) (at : slice_get xs i ≡ Some x) (y : X) where
  pub other : (j : ℕ) (z : X) → j ≢ i → slice_get (set xs i y) j ≡ Some z → slice_get xs j ≡ Some z
  other j z apart there = sym (set_there xs i j y apart) ∙ there

  pub here : (j : ℕ) (z : X) → j ≡ i → slice_get (set xs i y) j ≡ Some z → y ≡ z
  here j z same there = same_Some y z (sym (set_here xs i x y at) ∙ ap (slice_get (set xs i y)) (sym same) ∙ there)

  -- what holds of each, where it holds of the one that changed
  pub each_changed : (P : X → Type 0) → ((j : ℕ) (z : X) → slice_get xs j ≡ Some z → P z) → P y → (j : ℕ) (z : X) → slice_get (set xs i y) j ≡ Some z → P z
  each_changed P were now = λ j z there.
      elim (cases_eq j i) [
        | inl same ↦ subst P (here j z same there) now
        | inr apart ↦ were j z (other j z apart there)
      ]
