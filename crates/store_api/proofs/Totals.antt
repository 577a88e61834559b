-- Sums over slots: what one slot adds, whatever the lists' lengths are.
use Rattle.std.proofs.Common.{◌≡◌, ◌≢◌, ℕ, zero, suc, ◌+◌, ◌≤◌, List, [], ◌∷◌, Option, Some, None, refl, sym, ap, get_or, arith, zero-add}
use Rattle.slab.specs.Slab.{Slab, get, Updates}
use Rattle.store_api.specs.MemAccounts.{slot_sum, weight_of}

module _ {X : Type 0} (weight : X → ℕ) where
  pub slot_sum-cons : (o : Option X) (rest : List (Option X)) → slot_sum weight (o ∷ rest) ≡ weight_of weight o + slot_sum weight rest
  slot_sum-cons None rest = sym (zero-add (slot_sum weight rest))
  slot_sum-cons (Some x) rest = refl

  -- the same at every place
  pub slot_sum-alike : (xs ys : List (Option X)) → ((q : ℕ) → get_or ys q None ≡ get_or xs q None) → slot_sum weight ys ≡ slot_sum weight xs
  slot_sum-alike [] [] alike = refl
  slot_sum-alike [] (y ∷ ys) alike =
      let head : weight_of weight y ≡ 0 = ap (weight_of weight) (alike 0) in
      let rest : slot_sum weight ys ≡ 0 = slot_sum-alike [] ys (λ q. alike (suc q)) in
      omega (arith, slot_sum-cons y ys)
  slot_sum-alike (x ∷ xs) [] alike =
      let head : 0 ≡ weight_of weight x = ap (weight_of weight) (alike 0) in
      let rest : 0 ≡ slot_sum weight xs = slot_sum-alike xs [] (λ q. alike (suc q)) in
      omega (arith, slot_sum-cons x xs)
  slot_sum-alike (x ∷ xs) (y ∷ ys) alike =
      let head : weight_of weight y ≡ weight_of weight x = ap (weight_of weight) (alike 0) in
      let rest : slot_sum weight ys ≡ slot_sum weight xs = slot_sum-alike xs ys (λ q. alike (suc q)) in
      omega (arith, slot_sum-cons x xs, slot_sum-cons y ys)

  weight_at : ℕ → List (Option X) → ℕ
  weight_at k xs = weight_of weight (get_or xs k None)

  -- one place changed
  pub slot_sum-at : (k : ℕ) (xs ys : List (Option X)) → ((q : ℕ) → q ≢ k → get_or ys q None ≡ get_or xs q None) → slot_sum weight ys + weight_of weight (get_or xs k None) ≡ slot_sum weight xs + weight_of weight (get_or ys k None)
  slot_sum-at zero [] [] alike = refl
  slot_sum-at zero [] (y ∷ ys) alike =
      let rest : slot_sum weight ys ≡ 0 = slot_sum-alike [] ys (λ q. alike (suc q) (λ e. omega (arith, e))) in
      omega (arith, slot_sum-cons y ys)
  slot_sum-at zero (x ∷ xs) [] alike =
      let rest : 0 ≡ slot_sum weight xs = slot_sum-alike xs [] (λ q. alike (suc q) (λ e. omega (arith, e))) in
      omega (arith, slot_sum-cons x xs)
  slot_sum-at zero (x ∷ xs) (y ∷ ys) alike =
      let rest : slot_sum weight ys ≡ slot_sum weight xs = slot_sum-alike xs ys (λ q. alike (suc q) (λ e. omega (arith, e))) in
      omega (arith, slot_sum-cons x xs, slot_sum-cons y ys)
  slot_sum-at (suc k) [] [] alike = refl
  slot_sum-at (suc k) [] (y ∷ ys) alike =
      let head : weight_of weight y ≡ 0 = ap (weight_of weight) (alike 0 (λ e. omega (arith, e))) in
      let rest : slot_sum weight ys + weight_of weight (get_or [] k None) ≡ slot_sum weight [] + weight_of weight (get_or ys k None) = slot_sum-at k [] ys (λ q n. alike (suc q) (λ e. n (omega (arith, e)))) in
      omega (arith, slot_sum-cons y ys, rest)
  slot_sum-at (suc k) (x ∷ xs) [] alike =
      let head : 0 ≡ weight_of weight x = ap (weight_of weight) (alike 0 (λ e. omega (arith, e))) in
      let rest : slot_sum weight [] + weight_of weight (get_or xs k None) ≡ slot_sum weight xs + weight_of weight (get_or [] k None) = slot_sum-at k xs [] (λ q n. alike (suc q) (λ e. n (omega (arith, e)))) in
      omega (arith, slot_sum-cons x xs, rest)
  slot_sum-at (suc k) (x ∷ xs) (y ∷ ys) alike =
      let head : weight_of weight y ≡ weight_of weight x = ap (weight_of weight) (alike 0 (λ e. omega (arith, e))) in
      let rest : slot_sum weight ys + weight_of weight (get_or xs k None) ≡ slot_sum weight xs + weight_of weight (get_or ys k None) = slot_sum-at k xs ys (λ q n. alike (suc q) (λ e. n (omega (arith, e)))) in
      omega (arith, slot_sum-cons x xs, slot_sum-cons y ys, rest)

  -- a slab whose one key changed
  pub slot_sum-updates : (old new : Slab X) (key : ℕ) (slot : Option X) → Updates old new key slot → slot_sum weight new.slots + weight_of weight (get old key) ≡ slot_sum weight old.slots + weight_of weight slot
  slot_sum-updates old new key slot u =
      let both = slot_sum-at key old.slots new.slots u.others in
      let now : weight_of weight (get new key) ≡ weight_of weight slot = ap (weight_of weight) u.changed in
      omega (arith, both, now)

  -- one slot weighs at most all
  pub weight-at-most : (xs : List (Option X)) (k : ℕ) → weight_of weight (get_or xs k None) ≤ slot_sum weight xs
  weight-at-most [] k = omega arith
  weight-at-most (x ∷ xs) zero = omega (arith, slot_sum-cons x xs)
  weight-at-most (x ∷ xs) (suc k) = omega (arith, slot_sum-cons x xs, weight-at-most xs k)
