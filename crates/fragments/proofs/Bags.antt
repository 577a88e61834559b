-- Lists that weigh the same, however their elements are weighed, are permutations of each other, where elements can be compared.
use Rattle.std.proofs.Common.{◌≡◌, ◌+◌, ◌<◌, ℕ, Bool, true, false, List, [], ◌∷◌, ◌++◌, sum_by, sym, refl, ap, subst, arith}
use Rattle.std.specs.List.{flat_map}
use Rattle.std.specs.List.Sorted.{IsPermutation}
use Rattle.std.proofs.lemmas.List.Concat.{flat_map-cons}
use Rattle.std.proofs.lemmas.List.Sorted.{IsPermutation-refl, IsPermutation-cons, IsPermutation-middle, IsPermutation-sym, IsPermutation-trans}
use Rattle.std.proofs.lemmas.List.Sums.{sum_by-append, sum_by-cons}

abbrev one : Bool → ℕ
one true = 1
one false = 0

module _ {X : Type 0} (same : X → X → Bool) (exact : (x y : X) → same x y ≡ true → x ≡ y) (here : (x : X) → same x x ≡ true) where
  abbrev is_one : (x : X) → X → ℕ
  is_one x y = one (same x y)

  -- an element that weighs something stands somewhere
  pub record Stands (x : X) (ys : List X) : Type 0 where
    pub front : List X
    pub back : List X
    pub at : ys ≡ front ++ x ∷ back

  found_at : (x y : X) (ys : List X) (b : Bool) → same x y ≡ b → (0 < sum_by (is_one x) ys → Stands x ys) → 0 < sum_by (is_one x) (y ∷ ys) → Stands x (y ∷ ys)
  found_at x y ys true is behind some = record { front = []; back = ys; at = ap (λ z. z ∷ ys) (sym (exact x y is)) }
  found_at x y ys false is behind some =
      let none : is_one x y ≡ 0 = ap one is in
      let rest = behind (omega (arith, sum_by-cons (is_one x) y ys)) in
      record { front = y ∷ rest.front; back = rest.back; at = ap (λ l. y ∷ l) rest.at }

  found : (x : X) (ys : List X) → 0 < sum_by (is_one x) ys → Stands x ys
  found x [] some = absurd (omega arith)
  found x (y ∷ ys) some = found_at x y ys (same x y) refl (found x ys) some

  pub permuted : (xs ys : List X) → ((h : X → ℕ) → sum_by h xs ≡ sum_by h ys) → IsPermutation xs ys
  permuted [] [] even = IsPermutation-refl []
  permuted [] (y ∷ ys) even = let e = even (λ z. 1) in absurd (omega (arith, sum_by-cons (λ (z : X). 1) y ys))
  permuted (x ∷ xs) ys even =
      let e = even (is_one x) in
      let this : is_one x x ≡ 1 = ap one (here x) in
      let some : 0 < sum_by (is_one x) ys = omega (arith, sum_by-cons (is_one x) x xs) in
      let at = found x ys some in
      let even' : (h : X → ℕ) → sum_by h xs ≡ sum_by h (at.front ++ at.back) = λ h.
      let e' = even h in
      let f : sum_by h ys ≡ sum_by h (at.front ++ x ∷ at.back) = ap (sum_by h) at.at in
      omega (arith, sum_by-cons h x xs, sum_by-append h at.front (x ∷ at.back), sum_by-cons h x at.back, sum_by-append h at.front at.back) in
      let inner = IsPermutation-cons x xs (at.front ++ at.back) (permuted xs (at.front ++ at.back) even') in
      let outer = IsPermutation-sym (at.front ++ x ∷ at.back) (x ∷ (at.front ++ at.back)) (IsPermutation-middle at.front x at.back) in
      subst (IsPermutation (x ∷ xs)) (sym at.at) (IsPermutation-trans (x ∷ xs) (x ∷ (at.front ++ at.back)) (at.front ++ x ∷ at.back) inner outer)

module _ {T Row : Type 0} where
  pub sum_flat : (g : Row → ℕ) (f : T → List Row) (xs : List T) → sum_by g (flat_map f xs) ≡ sum_by (λ x. sum_by g (f x)) xs
  sum_flat g f [] = refl
  sum_flat g f (x ∷ xs) =
      let rest = sum_flat g f xs in
      let e : sum_by g (flat_map f (x ∷ xs)) ≡ sum_by g (f x ++ flat_map f xs) = ap (sum_by g) (flat_map-cons f x xs) in
      omega (arith, sum_by-append g (f x) (flat_map f xs), sum_by-cons (λ y. sum_by g (f y)) x xs)

  -- batches that were dealt to one and to others: each row as often as it was given
  pub rows_even : (f : T → List Row) (all own : List T) (lists : List (List T)) → ((h : T → ℕ) → sum_by h all ≡ sum_by h own + sum_by (sum_by h) lists)
      → (g : Row → ℕ) → sum_by g (flat_map f all) ≡ sum_by g (flat_map f own ++ flat_map (flat_map f) lists)
  rows_even f all own lists even g =
      let e = even (λ x. sum_by g (f x)) in
      let a = sum_flat g f all in let b = sum_flat g f own in
      let c = lists_flat lists in
      omega (arith, sum_by-append g (flat_map f own) (flat_map (flat_map f) lists))
    where
      lists_flat : (ls : List (List T)) → sum_by g (flat_map (flat_map f) ls) ≡ sum_by (sum_by (λ x. sum_by g (f x))) ls
      lists_flat [] = refl
      lists_flat (l ∷ ls) =
          let rest = lists_flat ls in
          let first = sum_flat g f l in
          let e : sum_by g (flat_map (flat_map f) (l ∷ ls)) ≡ sum_by g (flat_map f l ++ flat_map (flat_map f) ls) = ap (sum_by g) (flat_map-cons (flat_map f) l ls) in
          omega (arith, sum_by-append g (flat_map f l) (flat_map (flat_map f) ls), sum_by-cons (sum_by (λ x. sum_by g (f x))) l ls)

  -- so the rows of all lists together are a permutation of the rows that were given
  pub rows_permuted : (same : Row → Row → Bool) (exact : (x y : Row) → same x y ≡ true → x ≡ y) (here : (x : Row) → same x x ≡ true)
      (f : T → List Row) (all own : List T) (lists : List (List T)) → ((h : T → ℕ) → sum_by h all ≡ sum_by h own + sum_by (sum_by h) lists)
      → IsPermutation (flat_map f all) (flat_map f own ++ flat_map (flat_map f) lists)
  rows_permuted same exact here f all own lists even = permuted same exact here (flat_map f all) (flat_map f own ++ flat_map (flat_map f) lists) (rows_even f all own lists even)
