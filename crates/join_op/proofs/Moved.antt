-- Rows of partitions, weighed, where some are dealt to others or go with theirs.
use Rattle.std.proofs.Common.{◌≡◌, ◌≢◌, ℕ, zero, suc, ◌+◌, ◌-◌, ◌<◌, ◌≤◌, ◌==◌, Bool, true, false, cond, List, [], ◌∷◌, ◌++◌, length, refl, ap, arith, length-append, ne_eqb}
use Rattle.std.specs.Prelude.{filter}
use Rattle.std.specs.List.{concat, sum_by}
use Rattle.std.proofs.lemmas.List.Sums.{sum_by-append, sum_by-cons}
use Rattle.tuple_stream.specs.Families.{Family}
use Rattle.tuple_stream.specs.FamilyCalls.{shares}
use Rattle.partition_stack.proofs.SharedRows.{shares_none, shares_same}
use Rattle.join_op.specs.Dividing.{HasDealt}
use Rattle.join_op.specs.Stored.{Side, dealt as dealt_to, place_of}

pub sum_ones : {X : Type 0} (xs : List X) → sum_by (λ _. 1) xs ≡ length xs
sum_ones [] = refl
sum_ones {X} (x ∷ xs) = let one : sum_by (λ (y : X). 1) (x ∷ xs) ≡ 1 + sum_by (λ y. 1) xs = sum_by-cons (λ y. 1) x xs in let rest : sum_by (λ (y : X). 1) xs ≡ length xs = sum_ones xs in omega (arith, one, rest)

pub sum_lengths : (xs : List (List ℕ)) → sum_by length xs ≡ length (concat xs)
sum_lengths [] = refl
sum_lengths (x ∷ xs) =
    let one : sum_by length (x ∷ xs) ≡ length x + sum_by length xs = sum_by-cons length x xs in
    let rest = sum_lengths xs in
    let all : length (x ++ concat xs) ≡ length x + length (concat xs) = length-append x (concat xs) in
    omega (arith, one, rest, all)

module _ (w : List ℕ → ℕ) where
  -- the first so many are no heavier than all
  pub weigh_first : (n m : ℕ) (rows : ℕ → List (List ℕ)) → n ≤ m → sum_by w (shares n rows) ≤ sum_by w (shares m rows)
  weigh_first zero m rows less = omega arith
  weigh_first (suc n) zero rows less = absurd (omega (arith, less))
  weigh_first (suc n) (suc m) rows less =
      let rest = weigh_first n m (λ i. rows (suc i)) (omega (arith, less)) in
      let one = sum_by-append w (rows 0) (shares n (λ i. rows (suc i))) in
      let two = sum_by-append w (rows 0) (shares m (λ i. rows (suc i))) in
      omega (arith, rest, one, two)

  -- those below a place, the one there, and sixteen above it
  weigh_fan : (at : ℕ) (now rows : ℕ → List (List ℕ)) → ((i : ℕ) → i < at → now i ≡ rows i)
      → sum_by w (shares (at + 17) now) ≡ sum_by w (shares at rows) + (sum_by w (now at) + sum_by w (shares 16 (λ i. now (at + 1 + i))))
  weigh_fan zero now rows below =
      let seventeen : sum_by w (shares (0 + 17) now) ≡ sum_by w (shares 17 now) = ap (λ (n : ℕ). sum_by w (shares n now)) (none_more 17) in
      let all : sum_by w (shares 17 now) ≡ sum_by w (now 0) + sum_by w (shares 16 (λ i. now (suc i))) = sum_by-append w (now 0) (shares 16 (λ i. now (suc i))) in
      let same : sum_by w (shares 16 (λ i. now (suc i))) ≡ sum_by w (shares 16 (λ i. now (0 + 1 + i))) = ap (sum_by w) (shares_same 16 (λ i. now (suc i)) (λ i. now (0 + 1 + i)) (λ i. ap now (one_more i))) in
      omega (arith, seventeen, all, same)
    where
      none_more : (n : ℕ) → 0 + n ≡ n
      none_more n = omega arith

      one_more : (i : ℕ) → suc i ≡ 0 + 1 + i
      one_more i = omega arith
  weigh_fan (suc a) now rows below =
      let rest = weigh_fan a (λ i. now (suc i)) (λ i. rows (suc i)) (λ i low. below (suc i) (omega (arith, low))) in
      let first : sum_by w (shares (suc a + 17) now) ≡ sum_by w (shares (suc (a + 17)) now) = ap (λ (n : ℕ). sum_by w (shares n now)) (around a 17) in
      let all : sum_by w (shares (suc (a + 17)) now) ≡ sum_by w (now 0) + sum_by w (shares (a + 17) (λ i. now (suc i))) = sum_by-append w (now 0) (shares (a + 17) (λ i. now (suc i))) in
      let was : sum_by w (shares (suc a) rows) ≡ sum_by w (rows 0) + sum_by w (shares a (λ i. rows (suc i))) = sum_by-append w (rows 0) (shares a (λ i. rows (suc i))) in
      let here : sum_by w (now 0) ≡ sum_by w (rows 0) = ap (sum_by w) (below 0 (omega arith)) in
      let same : sum_by w (shares 16 (λ i. now (suc (a + 1 + i)))) ≡ sum_by w (shares 16 (λ i. now (suc a + 1 + i))) = ap (sum_by w) (shares_same 16 (λ i. now (suc (a + 1 + i))) (λ i. now (suc a + 1 + i)) (λ i. ap now (further a i))) in
      omega (arith, rest, first, all, was, here, same)
    where
      around : (a n : ℕ) → suc a + n ≡ suc (a + n)
      around a n = omega arith

      further : (a i : ℕ) → suc (a + 1 + i) ≡ suc a + 1 + i
      further a i = omega arith

  one_at_most : (b : Bool) (row : List ℕ) (rows : List (List ℕ)) → sum_by w (cond b (row ∷ rows) rows) ≤ w row + sum_by w rows
  one_at_most true row rows = let one = sum_by-cons w row rows in omega (arith, one)
  one_at_most false row rows = omega arith

  -- one more in one of them
  more_light : (n k : ℕ) (test : ℕ → Bool) (rows : ℕ → List (List ℕ)) (row : List ℕ) → ((i : ℕ) → i ≢ k → test i ≡ false) → sum_by w (shares n (λ i. cond (test i) (row ∷ rows i) (rows i))) ≤ w row + sum_by w (shares n rows)
  more_light zero k test rows row others = omega arith
  more_light (suc n) zero test rows row others =
      let here = one_at_most (test 0) row (rows 0) in
      let rest : sum_by w (shares n (λ i. cond (test (suc i)) (row ∷ rows (suc i)) (rows (suc i)))) ≡ sum_by w (shares n (λ i. rows (suc i))) =
      ap (sum_by w) (shares_same n (λ i. cond (test (suc i)) (row ∷ rows (suc i)) (rows (suc i))) (λ i. rows (suc i)) (λ i. ap (λ (b : Bool). cond b (row ∷ rows (suc i)) (rows (suc i))) (others (suc i) (λ same. omega (arith, same))))) in
      let now = sum_by-append w (cond (test 0) (row ∷ rows 0) (rows 0)) (shares n (λ i. cond (test (suc i)) (row ∷ rows (suc i)) (rows (suc i)))) in
      let was = sum_by-append w (rows 0) (shares n (λ i. rows (suc i))) in
      omega (arith, here, rest, now, was)
  more_light (suc n) (suc k) test rows row others =
      let here : sum_by w (cond (test 0) (row ∷ rows 0) (rows 0)) ≡ sum_by w (rows 0) = ap (λ (b : Bool). sum_by w (cond b (row ∷ rows 0) (rows 0))) (others 0 (λ same. omega (arith, same))) in
      let rest = more_light n k (λ i. test (suc i)) (λ i. rows (suc i)) row (λ i apart. others (suc i) (λ same. apart (omega (arith, same)))) in
      let now = sum_by-append w (cond (test 0) (row ∷ rows 0) (rows 0)) (shares n (λ i. cond (test (suc i)) (row ∷ rows (suc i)) (rows (suc i)))) in
      let was = sum_by-append w (rows 0) (shares n (λ i. rows (suc i))) in
      omega (arith, here, rest, now, was)

  -- rows that are dealt to those from a place on
  dealt_light : (place : List ℕ → ℕ) (base n : ℕ) (xs : List (List ℕ)) → sum_by w (shares n (λ i. filter (λ row. place row == base + i) xs)) ≤ sum_by w xs
  dealt_light place base n [] = let none : sum_by w (shares n (λ i. filter (λ row. place row == base + i) [])) ≡ 0 = ap (sum_by w) (shares_none n) in omega (arith, none)
  dealt_light place base n (row ∷ xs) =
      let rest = dealt_light place base n xs in
      let more : sum_by w (shares n (λ i. filter (λ r. place r == base + i) (row ∷ xs))) ≤ w row + sum_by w (shares n (λ i. filter (λ r. place r == base + i) xs)) =
      more_light n (place row - base) (λ i. place row == base + i) (λ i. filter (λ r. place r == base + i) xs) row (λ i apart. ne_eqb (place row) (base + i) (λ same. apart (omega (arith, same)))) in
      let one = sum_by-cons w row xs in
      omega (arith, rest, more, one)

  around : (a : ℕ) → suc a + 1 ≡ suc (a + 1)
  around a = omega arith

  weigh_last : (at : ℕ) (rows : ℕ → List (List ℕ)) → sum_by w (shares (at + 1) rows) ≡ sum_by w (shares at rows) + sum_by w (rows at)
  weigh_last zero rows = let one : sum_by w (rows 0 ++ []) ≡ sum_by w (rows 0) + sum_by w [] = sum_by-append w (rows 0) [] in omega (arith, one)
  weigh_last (suc a) rows =
      let rest = weigh_last a (λ i. rows (suc i)) in
      let first : sum_by w (shares (suc a + 1) rows) ≡ sum_by w (shares (suc (a + 1)) rows) = ap (λ (n : ℕ). sum_by w (shares n rows)) (around a) in
      let all : sum_by w (shares (suc (a + 1)) rows) ≡ sum_by w (rows 0) + sum_by w (shares (a + 1) (λ i. rows (suc i))) = sum_by-append w (rows 0) (shares (a + 1) (λ i. rows (suc i))) in
      let was : sum_by w (shares (suc a) rows) ≡ sum_by w (rows 0) + sum_by w (shares a (λ i. rows (suc i))) = sum_by-append w (rows 0) (shares a (λ i. rows (suc i))) in
      omega (arith, rest, first, all, was)

  -- some of a partition's rows are in the sixteen above it, and some are there still
  pub weigh_dealt : (side : Side) (level at : ℕ) (rows : ℕ → List (List ℕ)) (some rest : List (List ℕ)) (f : Family) → (has : HasDealt side level at rows some rest f) → sum_by w some + sum_by w rest ≤ sum_by w (rows at)
      → sum_by w (shares (at + 17) has.now) ≤ sum_by w (shares (at + 1) rows)
  weigh_dealt side level at rows some rest f has light =
      let fan = weigh_fan at has.now rows has.below in
      let all : sum_by w (shares (at + 1) rows) ≡ sum_by w (shares at rows) + sum_by w (rows at) = weigh_last at rows in
      let here : sum_by w (has.now at) ≡ sum_by w rest = ap (sum_by w) has.here in
      let above : sum_by w (shares 16 (λ i. has.now (at + 1 + i))) ≡ sum_by w (shares 16 (λ i. dealt_to side level (at + 1) some (at + 1 + i))) =
      ap (sum_by w) (shares_same 16 (λ i. has.now (at + 1 + i)) (λ i. dealt_to side level (at + 1) some (at + 1 + i)) (λ i. has.above (at + 1 + i) (omega arith))) in
      let few = dealt_light (place_of side level (at + 1)) (at + 1) 16 some in
      omega (arith, fan, all, here, above, few, light)

  pub none_left : (xs : List (List ℕ)) → sum_by w xs + sum_by w [] ≤ sum_by w xs
  none_left xs = omega arith
