-- Lists by their places, one of which is written.
use Rattle.std.proofs.Common.{◌≡◌, ◌∙◌, ◌⊎◌, ◌<◌, ◌≤◌, ◌+◌, inl, inr, ℕ, zero, suc, List, [], ◌∷◌, drop, length, map, set, Some, refl, ap, sym, subst, arith}
use Rattle.std.specs.List.{slice_get}
use Rattle.std.specs.Prelude.{◌≢◌}
use Rattle.std.proofs.lemmas.Option.{none-some, same_Some, slice_get_within}

module _ {X : Type 0} where
  -- what stands there then: the new one at its place, and elsewhere what stood there
  pub set_get : (xs : List X) (k j : ℕ) (y x : X) → slice_get (set xs k y) j ≡ Some x → ((j ≡ k) × (x ≡ y)) ⊎ ((j ≢ k) × (slice_get xs j ≡ Some x))
  set_get [] k j y x at = absurd (none-some x at)
  set_get (z ∷ zs) zero zero y x at = inl (refl, sym (same_Some y x at))
  set_get (z ∷ zs) zero (suc j) y x at = inr ((λ (same : suc j ≡ 0). omega (arith, same)), at)
  set_get (z ∷ zs) (suc k) zero y x at = inr ((λ (same : 0 ≡ suc k). omega (arith, same)), at)
  set_get (z ∷ zs) (suc k) (suc j) y x at =
      elim (set_get zs k j y x at) [
        | inl here ↦ (let place = here.0 in inl (omega (arith, place), here.1))
        | inr there ↦ inr ((λ (same : suc j ≡ suc k). there.0 (omega (arith, same))), there.1)
      ]

-- a fact that holds of those before a place, and one that holds of those from there on
pub record Passing {X : Type 0} (Before After : X → Type 0) (place : ℕ) (xs : List X) : Type 0 where
  pub passed : (j : ℕ) (x : X) → slice_get xs j ≡ Some x → j < place → After x
  pub waits : (j : ℕ) (x : X) → slice_get xs j ≡ Some x → place ≤ j → Before x

module _ {X : Type 0} (Before After : X → Type 0) where
  pub passing_init : (xs : List X) → ((j : ℕ) (x : X) → slice_get xs j ≡ Some x → Before x) → Passing Before After 0 xs
  passing_init xs all = record { passed = λ j x at short. absurd (omega (arith, short)); waits = λ j x at long. all j x at }

  pub passing_step : (place : ℕ) (xs : List X) (y : X) → Passing Before After place xs → After y → Passing Before After (place + 1) (set xs place y)
  passing_step place xs y passing after = record {
    passed = λ j x at short. elim (set_get xs place j y x at) [
      | inl here ↦ subst (λ (z : X). After z) (sym here.1) after
      | inr there ↦ (let apart = there.0 in passing.passed j x there.1 (omega (arith, apart, short)))
    ];
    waits = λ j x at long. elim (set_get xs place j y x at) [
      | inl here ↦ (let same = here.0 in absurd (omega (arith, same, long)))
      | inr there ↦ passing.waits j x there.1 (omega (arith, long))
    ];
  }

  pub passing_end : (place : ℕ) (xs : List X) → length xs ≤ place → Passing Before After place xs → (j : ℕ) (x : X) → slice_get xs j ≡ Some x → After x
  passing_end place xs long passing j x at = let inside = slice_get_within xs j x at in passing.passed j x at (omega (arith, long, inside))

-- what stands at a place of a list that was mapped
pub map_get : {X Y : Type 0} → (f : X → Y) (xs : List X) (k : ℕ) (x : X) → slice_get xs k ≡ Some x → slice_get (map f xs) k ≡ Some (f x)
map_get f [] k x at = absurd (none-some x at)
map_get f (y ∷ ys) zero x at = ap (λ z. Some (f z)) (same_Some y x at)
map_get f (y ∷ ys) (suc k) x at = map_get f ys k x at

-- what is the same of the one that is written stays the same of all
pub same_set : {X Y : Type 0} → (f : X → Y) (xs : List X) (k : ℕ) (x y : X) → slice_get xs k ≡ Some x → f y ≡ f x → map f (set xs k y) ≡ map f xs
same_set f [] k x y at same = refl
same_set f (z ∷ zs) zero x y at same = ap (λ w. w ∷ map f zs) (same ∙ ap f (sym (same_Some z x at)))
same_set f (z ∷ zs) (suc k) x y at same = ap (λ ws. f z ∷ ws) (same_set f zs k x y at same)

-- what stands from a place on
drop-suc : {X : Type 0} → (xs : List X) (k : ℕ) (x : X) → slice_get xs k ≡ Some x → drop k xs ≡ x ∷ drop (suc k) xs
drop-suc [] k x at = absurd (none-some x at)
drop-suc (y ∷ ys) zero x at = ap (λ z. z ∷ ys) (same_Some y x at)
drop-suc (y ∷ ys) (suc k) x at = drop-suc ys k x at

pub drop_here : {X : Type 0} → (xs : List X) (k : ℕ) (x : X) → slice_get xs k ≡ Some x → drop k xs ≡ x ∷ drop (k + 1) xs
drop_here xs k x at = let next : suc k ≡ k + 1 = omega arith in subst (λ (n : ℕ). drop k xs ≡ x ∷ drop n xs) next (drop-suc xs k x at)
