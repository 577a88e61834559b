-- A partial row is put at its place among kept ones.
use Rattle.std.proofs.Common.{◌≡◌, ◌≢◌, ◌∙◌, ℕ, zero, suc, ◌+◌, ◌<◌, List, [], ◌∷◌, length, map, take, refl, ap, sym, subst, arith, true, false, true≢false}
use Rattle.std.specs.Prelude.{All, slice_index_or}
use Rattle.std.specs.List.{AllByRecursion}
use Rattle.std.specs.List.Sorted.{IsStrictlySortedBy}
use Rattle.std.specs.Ordering.{is_gt, ordering_reverse}
use Rattle.std.specs.declared.cmp.Ordering.{Ordering}
use Rattle.std.specs.declared.cmp.Ordering.TheVariants.{Less, Equal, Greater}
use Rattle.std.proofs.lemmas.List.Elements.{All-cons, All-nil}
use Rattle.group_rows.specs.Keyed.{IsExactOrder, KeyOrder}

-- a key above an entry is above those before it
module _ (order : KeyOrder) (is_order : IsExactOrder order) {X : Type 0} (key : X → List ℕ) where
  flip : (a b : List ℕ) → order a b ≡ Greater → order b a ≡ Less
  flip a b is = is_order.total.antisymm b a ∙ ap ordering_reverse is

  above_first : (q k : List ℕ) (x : X) → order q k ≡ Greater → order (key x) k ≡ Less → order q (key x) ≡ Greater
  above_first q k x above less = is_order.total.antisymm q (key x) ∙ ap ordering_reverse (is_order.total.trans (key x) k q less (flip q k above))

  before_it : (x : X) (xs : List X) (i : ℕ) (d : X) → AllByRecursion (λ k. order (key x) k ≡ Less) (map key xs) → i < length xs → order (key x) (key (slice_index_or xs i d)) ≡ Less
  before_it x [] i d all inside = absurd (omega (arith, inside))
  before_it x (y ∷ xs) zero d all inside = all.0
  before_it x (y ∷ xs) (suc i) d all inside = before_it x xs i d all.1 (omega (arith, inside))

  pub all_below : (q : List ℕ) (xs : List X) (i : ℕ) (d : X) → IsStrictlySortedBy order (map key xs) → i < length xs → order q (key (slice_index_or xs i d)) ≡ Greater → All (λ x. order q (key x) ≡ Greater) (take (suc i) xs)
  unfolding IsStrictlySortedBy
  all_below q [] i d sorted inside above = absurd (omega (arith, inside))
  all_below q (x ∷ xs) zero d sorted inside above = All-cons (λ x. order q (key x) ≡ Greater) x [] above (All-nil (λ x. order q (key x) ≡ Greater))
  all_below q (x ∷ xs) (suc i) d sorted inside above =
      All-cons (λ x. order q (key x) ≡ Greater) x (take (suc i) xs)
      (above_first q (key (slice_index_or xs i d)) x above (before_it x xs i d sorted.0 (omega (arith, inside))))
      (all_below q xs i d sorted.1 (omega (arith, inside)) above)

  pub low_moves : (q : List ℕ) (xs : List X) (i : ℕ) (d : X) → IsStrictlySortedBy order (map key xs) → i < length xs → order q (key (slice_index_or xs i d)) ≡ Greater → All (λ x. order q (key x) ≡ Greater) (take (i + 1) xs)
  low_moves q xs i d sorted inside above = subst (λ (n : ℕ). All (λ x. order q (key x) ≡ Greater) (take n xs)) (let same : suc i ≡ i + 1 = omega arith in same) (all_below q xs i d sorted inside above)

pub gt_so : (o : Ordering) → is_gt o ≡ true → o ≡ Greater
gt_so Less is = absurd (true≢false (sym is))
gt_so Equal is = absurd (true≢false (sym is))
gt_so Greater is = refl

pub not_gt : (o : Ordering) → is_gt o ≡ false → o ≢ Greater
not_gt o off is = absurd (true≢false (sym (ap is_gt is) ∙ off))

pub same_at : {X : Type 0} (xs : List X) (i : ℕ) (d e : X) → i < length xs → slice_index_or xs i d ≡ slice_index_or xs i e
same_at [] i d e inside = absurd (omega (arith, inside))
same_at (x ∷ xs) zero d e inside = refl
same_at (x ∷ xs) (suc i) d e inside = same_at xs i d e (omega (arith, inside))
