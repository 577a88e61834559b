-- What combining keeps.
use Rattle.std.proofs.Common.{◌≡◌, ℕ, ◌+◌, ◌≤◌, Bool, true, false, ◌||◌, List, [], ◌∷◌, map, refl, ap, sym, ◌∙◌, subst, arith, true≢false}
use Rattle.std.specs.Prelude.{fold}
use Rattle.std.specs.BTreeSet.{insert_key}
use Rattle.std.specs.List.{IsDistinct, AllByRecursion, sum_by}
use Rattle.std.specs.List.Sorted.{IsPermutation, IsStrictlySortedBy}
use Rattle.std.specs.Ordering.{match_ordering}
use Rattle.std.specs.Str.{bytes_eq}
use Rattle.std.specs.declared.cmp.Ordering.{Ordering}
use Rattle.std.specs.declared.cmp.Ordering.TheVariants.{Less, Equal, Greater}
use Rattle.std.proofs.lemmas.List.Sorted.{IsPermutation-refl, IsPermutation-cons, IsPermutation-trans, IsPermutation-middle, IsPermutation-sym}
use Rattle.std.proofs.lemmas.List.Sums.{sum_by-cons}
use Rattle.group_rows.specs.Keyed.{IsExactOrder, KeyOrder}
use Rattle.group_rows.specs.Partials.{Grouping, Partial, combine, combined_by, key_of}
use Rattle.group_rows.specs.Tables.{HaveDistinctKeys}
use Rattle.group_rows.proofs.Each.{is_each, keys_each}
use Rattle.group_rows.proofs.Merging.{combines}
use Rattle.group_rows.proofs.Keys.{or_turn, same_true, sorted_insert, stands}
use Rattle.group_rows.proofs.Tables.{any_order}

module _ (order : KeyOrder) (is_order : IsExactOrder order) where
  pub ordered_stay : (grouping : Grouping) (partials : List Partial) → IsStrictlySortedBy order (map key_of partials) → combined_by order grouping partials ≡ partials
  ordered_stay grouping partials sorted = is_each key_of (combine grouping) (combines grouping) order is_order partials partials sorted (λ q. refl)

  -- a partial result at its place
  abbrev place : Partial → List Partial → List Partial
  place p [] = p ∷ []
  place p (x ∷ xs) = match_ordering (order p.key x.key) (p ∷ x ∷ xs) (p ∷ x ∷ xs) (x ∷ place p xs)

  turned : (p x : Partial) (xs : List Partial) → IsPermutation (p ∷ x ∷ xs) (x ∷ p ∷ xs)
  turned p x xs = IsPermutation-sym (x ∷ p ∷ xs) (p ∷ x ∷ xs) (IsPermutation-middle (x ∷ []) p xs)

  placed_step : (o : Ordering) (p x : Partial) (xs more : List Partial) → IsPermutation (p ∷ xs) more → IsPermutation (p ∷ x ∷ xs) (match_ordering o (p ∷ x ∷ xs) (p ∷ x ∷ xs) (x ∷ more))
  placed_step Less p x xs more same = IsPermutation-refl (p ∷ x ∷ xs)
  placed_step Equal p x xs more same = IsPermutation-refl (p ∷ x ∷ xs)
  placed_step Greater p x xs more same = IsPermutation-trans (p ∷ x ∷ xs) (x ∷ p ∷ xs) (x ∷ more) (turned p x xs) (IsPermutation-cons x (p ∷ xs) more same)

  placed : (p : Partial) (xs : List Partial) → IsPermutation (p ∷ xs) (place p xs)
  placed p [] = IsPermutation-refl (p ∷ [])
  placed p (x ∷ xs) = placed_step (order p.key x.key) p x xs (place p xs) (placed p xs)

  keys_step : (o : Ordering) (p x : Partial) (xs more : List Partial) → order p.key x.key ≡ o → bytes_eq p.key x.key ≡ false → map key_of more ≡ insert_key order (map key_of xs) p.key
      → map key_of (match_ordering o (p ∷ x ∷ xs) (p ∷ x ∷ xs) (x ∷ more)) ≡ match_ordering o (p.key ∷ x.key ∷ map key_of xs) (x.key ∷ map key_of xs) (x.key ∷ insert_key order (map key_of xs) p.key)
  keys_step Less p x xs more is off rest = refl
  keys_step Equal p x xs more is off rest = absurd (true≢false (sym (same_true p.key x.key (is_order.exact p.key x.key is)) ∙ off))
  keys_step Greater p x xs more is off rest = ap (λ (ks : List (List ℕ)). x.key ∷ ks) rest

  first_off : (b c : Bool) → (b || c) ≡ false → b ≡ false
  first_off true c is = is
  first_off false c is = refl

  others_off : (b c : Bool) → (b || c) ≡ false → c ≡ false
  others_off true c is = absurd (true≢false is)
  others_off false c is = is

  placed_keys : (p : Partial) (xs : List Partial) → stands p.key (map key_of xs) ≡ false → map key_of (place p xs) ≡ insert_key order (map key_of xs) p.key
  placed_keys p [] off = refl
  placed_keys p (x ∷ xs) off =
      keys_step (order p.key x.key) p x xs (place p xs) refl (first_off (bytes_eq p.key x.key) (stands p.key (map key_of xs)) off)
      (placed_keys p xs (others_off (bytes_eq p.key x.key) (stands p.key (map key_of xs)) off))

  abbrev sorted_list : List Partial → List Partial
  sorted_list [] = []
  sorted_list (p ∷ ps) = place p (sorted_list ps)

  permuted : (ps : List Partial) → IsPermutation ps (sorted_list ps)
  permuted [] = IsPermutation-refl []
  permuted (p ∷ ps) = IsPermutation-trans (p ∷ ps) (p ∷ sorted_list ps) (place p (sorted_list ps)) (IsPermutation-cons p ps (sorted_list ps) (permuted ps)) (placed p (sorted_list ps))

  off_all : (k : List ℕ) (ks : List (List ℕ)) → AllByRecursion (λ y. bytes_eq k y ≡ false) ks → stands k ks ≡ false
  off_all k [] all = refl
  off_all k (y ∷ ks) all = let first : bytes_eq k y ≡ false = all.0 in rw first (off_all k ks all.1)

  in_order : (ps : List Partial) → HaveDistinctKeys ps → IsStrictlySortedBy order (map key_of (sorted_list ps))
  unfolding IsStrictlySortedBy IsDistinct
  in_order [] distinct = tt
  in_order (p ∷ ps) distinct =
      let off : stands p.key (map key_of (sorted_list ps)) ≡ false = stands_sorted p.key ps ∙ off_all p.key (map key_of ps) distinct.0 in
      subst (IsStrictlySortedBy order) (sym (placed_keys p (sorted_list ps) off)) (sorted_insert order is_order (map key_of (sorted_list ps)) p.key (in_order ps distinct.1))
    where
      stands_place : (o : Ordering) (q : List ℕ) (p x : Partial) (xs more : List Partial) → stands q (map key_of more) ≡ (bytes_eq q p.key || stands q (map key_of xs))
          → stands q (map key_of (match_ordering o (p ∷ x ∷ xs) (p ∷ x ∷ xs) (x ∷ more))) ≡ (bytes_eq q p.key || (bytes_eq q x.key || stands q (map key_of xs)))
      stands_place Less q p x xs more rest = refl
      stands_place Equal q p x xs more rest = refl
      stands_place Greater q p x xs more rest = ap (λ (b : Bool). bytes_eq q x.key || b) rest ∙ or_turn (bytes_eq q x.key) (bytes_eq q p.key) (stands q (map key_of xs))

      place_stands : (q : List ℕ) (p : Partial) (xs : List Partial) → stands q (map key_of (place p xs)) ≡ (bytes_eq q p.key || stands q (map key_of xs))
      place_stands q p [] = refl
      place_stands q p (x ∷ xs) = stands_place (order p.key x.key) q p x xs (place p xs) (place_stands q p xs)

      stands_sorted : (q : List ℕ) (ps : List Partial) → stands q (map key_of (sorted_list ps)) ≡ stands q (map key_of ps)
      stands_sorted q [] = refl
      stands_sorted q (p ∷ ps) = place_stands q p (sorted_list ps) ∙ ap (λ (b : Bool). bytes_eq q p.key || b) (stands_sorted q ps)

  pub distinct_stay : (grouping : Grouping) (partials : List Partial) → HaveDistinctKeys partials → IsPermutation partials (combined_by order grouping partials)
  distinct_stay grouping ps distinct =
      let same : combined_by order grouping ps ≡ sorted_list ps = sym (any_order order is_order grouping ps (sorted_list ps) (permuted ps)) ∙ ordered_stay grouping (sorted_list ps) (in_order ps distinct) in
      subst (IsPermutation ps) (sym same) (permuted ps)

  -- ---- weights
  module _ (weight : List ℕ → ℕ) where
    insert_step : (o : Ordering) (k x : List ℕ) (ks more : List (List ℕ)) → sum_by weight more ≤ weight k + sum_by weight ks → sum_by weight (match_ordering o (k ∷ x ∷ ks) (x ∷ ks) (x ∷ more)) ≤ weight k + sum_by weight (x ∷ ks)
    insert_step Less k x ks more few = omega (arith, sum_by-cons weight k (x ∷ ks))
    insert_step Equal k x ks more few = omega arith
    insert_step Greater k x ks more few = omega (arith, few, sum_by-cons weight x ks, sum_by-cons weight x more)

    insert_weighs : (ks : List (List ℕ)) (k : List ℕ) → sum_by weight (insert_key order ks k) ≤ weight k + sum_by weight ks
    insert_weighs [] k = omega (arith, sum_by-cons weight k [])
    insert_weighs (x ∷ ks) k = insert_step (order k x) k x ks (insert_key order ks k) (insert_weighs ks k)

    fold_weighs : (ps : List Partial) (ks : List (List ℕ)) → sum_by weight (fold (λ keys p. insert_key order keys (key_of p)) ks ps) ≤ sum_by weight ks + sum_by (λ p. weight p.key) ps
    fold_weighs [] ks = omega arith
    fold_weighs (p ∷ ps) ks = omega (arith, fold_weighs ps (insert_key order ks p.key), insert_weighs ks p.key, sum_by-cons (λ p. weight p.key) p ps)

    by_keys : (ps : List Partial) → sum_by (λ p. weight p.key) ps ≡ sum_by weight (map key_of ps)
    by_keys [] = refl
    by_keys (p ∷ ps) = sum_by-cons (λ p. weight p.key) p ps ∙ ap (λ (n : ℕ). weight p.key + n) (by_keys ps) ∙ sym (sum_by-cons weight p.key (map key_of ps))

    pub weigh_no_more : (grouping : Grouping) (ps : List Partial) → sum_by (λ p. weight p.key) (combined_by order grouping ps) ≤ sum_by (λ p. weight p.key) ps
    weigh_no_more grouping ps =
        let keys = ap (sum_by weight) (keys_each key_of (combine grouping) (combines grouping) order is_order ps) in
        omega (arith, by_keys (combined_by order grouping ps), keys, fold_weighs ps [])
