-- Rows that are no more than others, and no heavier.
use Rattle.std.proofs.Common.{◌≡◌, ◌≢◌, ◌∙◌, ℕ, zero, suc, ◌+◌, ◌-◌, ◌<◌, ◌≤◌, ◌==◌, Bool, true, false, cond, List, [], ◌∷◌, ◌++◌, length, reverse, Some, refl, ap, ap₂, sym, subst, arith, append-nil, append_assoc, length-append, ne_eqb}
use Rattle.std.specs.Prelude.{filter, set, slice_get}
use Rattle.std.specs.List.{concat, sum_by}
use Rattle.std.specs.List.Sorted.{IsPermutation}
use Rattle.std.proofs.lemmas.Option.{same_Some}
use Rattle.std.proofs.lemmas.List.Folds.{concat-append}
use Rattle.std.proofs.lemmas.List.Sorted.{IsPermutation-append_comm, IsPermutation-reverse, IsPermutation-sym, length_permutation, sum_by-IsPermutation}
use Rattle.std.proofs.lemmas.List.Sums.{sum_by-cons}
use Rattle.store_api.specs.declared.shapes.Shape.{Shape}
use Rattle.tuple_stream.specs.FamilyCalls.{shares}
use Rattle.partition_stack.proofs.SharedRows.{dealt_few, shares_none, shares_same}
use Rattle.group_op.specs.Stored.{dealt, place_of}
use Rattle.group_op.specs.Wanting.{AreNoMore}
use Rattle.group_op.proofs.Dividing.{shares_both}

-- ---- bytes

pub concat_both : (xs ys : List (List ℕ)) → length (concat (xs ++ ys)) ≡ length (concat xs) + length (concat ys)
concat_both xs ys = ap length (concat-append xs ys) ∙ length-append (concat xs) (concat ys)

pub concat_one : (x : List ℕ) (xs : List (List ℕ)) → length (concat (x ∷ xs)) ≡ length x + length (concat xs)
concat_one x xs = concat_both (x ∷ []) xs ∙ ap (λ (n : ℕ). n + length (concat xs)) (ap length (append-nil x))

concat_sum : (xs : List (List ℕ)) → length (concat xs) ≡ sum_by length xs
concat_sum [] = refl
concat_sum (x ∷ xs) = concat_one x xs ∙ ap (λ (n : ℕ). length x + n) (concat_sum xs) ∙ sym (sum_by-cons length x xs)

pub concat_moved : (xs ys : List (List ℕ)) → IsPermutation xs ys → length (concat ys) ≡ length (concat xs)
concat_moved xs ys moved = concat_sum ys ∙ sum_by-IsPermutation length xs ys moved ∙ sym (concat_sum xs)

-- one for another that is as long
pub concat_set : (xs : List (List ℕ)) (i : ℕ) (x y : List ℕ) → slice_get xs i ≡ Some x → length y ≡ length x → length (concat (set xs i y)) ≡ length (concat xs)
concat_set [] i x y there long = refl
concat_set (z ∷ xs) zero x y there long =
    let same = ap length (same_Some z x there) in
    let now = concat_one y xs in
    let was = concat_one z xs in
    omega (arith, long, same, now, was)
concat_set (z ∷ xs) (suc i) x y there long =
    let rest = concat_set xs i x y there long in
    let now = concat_one z (set xs i y) in
    let was = concat_one z xs in
    omega (arith, rest, now, was)

-- ---- no more

pub no_more_same : (xs : List (List ℕ)) → AreNoMore xs xs
no_more_same xs = record { fewer = omega arith; lighter = omega arith }

pub no_more_none : (xs : List (List ℕ)) → AreNoMore [] xs
no_more_none xs = record { fewer = omega arith; lighter = omega arith }

pub no_more_then : (xs ys zs : List (List ℕ)) → AreNoMore xs ys → AreNoMore ys zs → AreNoMore xs zs
no_more_then xs ys zs one two =
    let a = one.fewer in
    let b = two.fewer in
    let c = one.lighter in
    let d = two.lighter in
    record { fewer = omega (arith, a, b); lighter = omega (arith, c, d) }

pub no_more_both : (xs ys zs ws : List (List ℕ)) → AreNoMore xs zs → AreNoMore ys ws → AreNoMore (xs ++ ys) (zs ++ ws)
no_more_both xs ys zs ws one two =
    let a = one.fewer in
    let b = two.fewer in
    let c = one.lighter in
    let d = two.lighter in
    let was = length-append xs ys in
    let now = length-append zs ws in
    let light = concat_both xs ys in
    let heavy = concat_both zs ws in
    record { fewer = omega (arith, a, b, was, now); lighter = omega (arith, c, d, light, heavy) }

pub no_more_moved : (xs ys : List (List ℕ)) → IsPermutation xs ys → AreNoMore xs ys
no_more_moved xs ys moved =
    let long = length_permutation xs ys moved in
    let heavy = concat_moved xs ys moved in
    record { fewer = omega (arith, long); lighter = omega (arith, heavy) }

pub no_more_front : (xs ys : List (List ℕ)) → AreNoMore xs (xs ++ ys)
no_more_front xs ys =
    let long = length-append xs ys in
    let heavy = concat_both xs ys in
    record { fewer = omega (arith, long); lighter = omega (arith, heavy) }

pub no_more_behind : (xs ys : List (List ℕ)) → AreNoMore ys (xs ++ ys)
no_more_behind xs ys =
    let long = length-append xs ys in
    let heavy = concat_both xs ys in
    record { fewer = omega (arith, long); lighter = omega (arith, heavy) }

pub no_more_swapped : (xs ys : List (List ℕ)) → AreNoMore (xs ++ ys) (ys ++ xs)
no_more_swapped xs ys = no_more_moved (xs ++ ys) (ys ++ xs) (IsPermutation-append_comm xs ys)

pub no_more_back : (xs : List (List ℕ)) → AreNoMore (reverse xs) xs
no_more_back xs = no_more_moved (reverse xs) xs (IsPermutation-sym xs (reverse xs) (IsPermutation-reverse xs))

pub no_more_of : (xs ys zs : List (List ℕ)) → length xs + length ys ≤ length zs → length (concat xs) + length (concat ys) ≤ length (concat zs) → AreNoMore (xs ++ ys) zs
no_more_of xs ys zs few light =
    let long = length-append xs ys in
    let heavy = concat_both xs ys in
    record { fewer = omega (arith, few, long); lighter = omega (arith, light, heavy) }

-- ---- rows that were dealt

heavy_one : (b : Bool) (row : List ℕ) (rows : List (List ℕ)) → length (concat (cond b (row ∷ rows) rows)) ≤ length row + length (concat rows)
heavy_one true row rows = let one = concat_one row rows in omega (arith, one)
heavy_one false row rows = omega arith

-- one more in one of them
heavy_more : (n k : ℕ) (test : ℕ → Bool) (rows : ℕ → List (List ℕ)) (row : List ℕ) → ((i : ℕ) → i ≢ k → test i ≡ false)
    → length (concat (shares n (λ i. cond (test i) (row ∷ rows i) (rows i)))) ≤ length row + length (concat (shares n rows))
heavy_more zero k test rows row others = omega arith
heavy_more (suc n) zero test rows row others =
    let here = heavy_one (test 0) row (rows 0) in
    let rest : length (concat (shares n (λ i. cond (test (suc i)) (row ∷ rows (suc i)) (rows (suc i))))) ≡ length (concat (shares n (λ i. rows (suc i)))) =
    ap (λ (rs : List (List ℕ)). length (concat rs)) (shares_same n (λ i. cond (test (suc i)) (row ∷ rows (suc i)) (rows (suc i))) (λ i. rows (suc i)) (λ i. ap (λ (b : Bool). cond b (row ∷ rows (suc i)) (rows (suc i))) (others (suc i) (λ same. omega (arith, same))))) in
    let now = concat_both (cond (test 0) (row ∷ rows 0) (rows 0)) (shares n (λ i. cond (test (suc i)) (row ∷ rows (suc i)) (rows (suc i)))) in
    let was = concat_both (rows 0) (shares n (λ i. rows (suc i))) in
    omega (arith, here, rest, now, was)
heavy_more (suc n) (suc k) test rows row others =
    let here : length (concat (cond (test 0) (row ∷ rows 0) (rows 0))) ≡ length (concat (rows 0)) = ap (λ (b : Bool). length (concat (cond b (row ∷ rows 0) (rows 0)))) (others 0 (λ same. omega (arith, same))) in
    let rest = heavy_more n k (λ i. test (suc i)) (λ i. rows (suc i)) row (λ i apart. others (suc i) (λ same. apart (omega (arith, same)))) in
    let now = concat_both (cond (test 0) (row ∷ rows 0) (rows 0)) (shares n (λ i. cond (test (suc i)) (row ∷ rows (suc i)) (rows (suc i)))) in
    let was = concat_both (rows 0) (shares n (λ i. rows (suc i))) in
    omega (arith, here, rest, now, was)

dealt_light : (place : List ℕ → ℕ) (from n : ℕ) (xs : List (List ℕ)) → length (concat (shares n (λ i. filter (λ row. place row == from + i) xs))) ≤ length (concat xs)
dealt_light place from n [] = let none : length (concat (shares n (λ i. filter (λ row. place row == from + i) []))) ≡ 0 = ap (λ (rs : List (List ℕ)). length (concat rs)) (shares_none n) in omega (arith, none)
dealt_light place from n (row ∷ xs) =
    let rest = dealt_light place from n xs in
    let more : length (concat (shares n (λ i. filter (λ r. place r == from + i) (row ∷ xs)))) ≤ length row + length (concat (shares n (λ i. filter (λ r. place r == from + i) xs))) =
    heavy_more n (place row - from) (λ i. place row == from + i) (λ i. filter (λ r. place r == from + i) xs) row (λ i apart. ne_eqb (place row) (from + i) (λ same. apart (omega (arith, same)))) in
    let one = concat_one row xs in
    omega (arith, rest, more, one)

pub no_more_dealt : (shape : Shape) (level base from n : ℕ) (xs : List (List ℕ)) → AreNoMore (shares n (λ i. dealt shape level base xs (from + i))) xs
no_more_dealt shape level base from n xs = record { fewer = dealt_few (place_of shape level base) from n xs; lighter = dealt_light (place_of shape level base) from n xs }

pub no_more_all : (shape : Shape) (level base n : ℕ) (xs : List (List ℕ)) → AreNoMore (shares n (dealt shape level base xs)) xs
no_more_all shape level base n xs =
    subst (λ (rs : List (List ℕ)). AreNoMore rs xs) (shares_same n (λ i. dealt shape level base xs (0 + i)) (dealt shape level base xs) (λ i. ap (dealt shape level base xs) (let same : 0 + i ≡ i = omega arith in same))) (no_more_dealt shape level base 0 n xs)

-- those that stood there, and those that were dealt
pub no_more_shares : (n : ℕ) (rows more : ℕ → List (List ℕ)) (xs : List (List ℕ)) → AreNoMore (shares n more) xs → AreNoMore (shares n (λ i. rows i ++ more i)) (shares n rows ++ xs)
no_more_shares n rows more xs less =
    no_more_then (shares n (λ i. rows i ++ more i)) (shares n rows ++ shares n more) (shares n rows ++ xs) (no_more_moved (shares n (λ i. rows i ++ more i)) (shares n rows ++ shares n more) (shares_both n rows more))
    (no_more_both (shares n rows) (shares n more) (shares n rows) xs (no_more_same (shares n rows)) less)

-- those of the first partitions, and of the others
pub shares_split : (k n m : ℕ) (rows : ℕ → List (List ℕ)) → k ≡ n + m → shares k rows ≡ shares n rows ++ shares m (λ i. rows (n + i))
shares_split k zero m rows is = ap (λ (j : ℕ). shares j rows) (let same : k ≡ m = omega (arith, is) in same) ∙ shares_same m rows (λ i. rows (0 + i)) (λ i. ap rows (let same : i ≡ 0 + i = omega arith in same))
shares_split zero (suc n) m rows is = absurd (omega (arith, is))
shares_split (suc k) (suc n) m rows is =
    let rest = shares_split k n m (λ i. rows (suc i)) (omega (arith, is)) in
    ap (λ (rs : List (List ℕ)). rows 0 ++ rs) (rest ∙ ap (λ (rs : List (List ℕ)). shares n (λ i. rows (suc i)) ++ rs) (shares_same m (λ i. rows (suc (n + i))) (λ i. rows (suc n + i)) (λ i. ap rows (let same : suc (n + i) ≡ suc n + i = omega arith in same))))
    ∙ sym (append_assoc (rows 0) (shares n (λ i. rows (suc i))) (shares m (λ i. rows (suc n + i))))

pub shares_below : (n : ℕ) (rows these : ℕ → List (List ℕ)) → ((i : ℕ) → i < n → rows i ≡ these i) → shares n rows ≡ shares n these
shares_below zero rows these same = refl
shares_below (suc n) rows these same = ap₂ (λ (a b : List (List ℕ)). a ++ b) (same 0 (omega arith)) (shares_below n (λ i. rows (suc i)) (λ i. these (suc i)) (λ i low. same (suc i) (omega (arith, low))))

-- the last one's rows behind the others'
pub shares_last : (n : ℕ) (rows : ℕ → List (List ℕ)) → shares (n + 1) rows ≡ shares n rows ++ rows n
shares_last n rows =
    shares_split (n + 1) n 1 rows refl ∙ ap (λ (rs : List (List ℕ)). shares n rows ++ rs) (append-nil (rows (n + 0)) ∙ ap rows (let same : n + 0 ≡ n = omega arith in same))

-- those without the last one's
pub no_more_last : (n m at : ℕ) (rows : ℕ → List (List ℕ)) → n ≡ at → m ≡ at + 1 → AreNoMore (shares n rows) (shares m rows)
no_more_last n m at rows is next =
    subst (λ (k : ℕ). AreNoMore (shares n rows) (shares k rows)) (sym next)
    (subst (λ (k : ℕ). AreNoMore (shares k rows) (shares (at + 1) rows)) (sym is)
    (subst (AreNoMore (shares at rows)) (sym (shares_last at rows)) (no_more_front (shares at rows) (rows at))))

-- partitions below a place with their rows, some at it, and others dealt above it
pub no_more_read : (shape : Shape) (level at n m : ℕ) (rows now : ℕ → List (List ℕ)) (rest gone : List (List ℕ)) → n ≡ at + suc m → ((i : ℕ) → i < at → now i ≡ rows i) → now at ≡ rest → ((i : ℕ) → at < i → now i ≡ dealt shape level (at + 1) gone i)
    → AreNoMore (shares n now) (shares at rows ++ (rest ++ gone))
no_more_read shape level at n m rows now rest gone is below here above =
    subst (λ (rs : List (List ℕ)). AreNoMore rs (shares at rows ++ (rest ++ gone))) (sym (shares_split n at (suc m) now is))
    (no_more_both (shares at now) (shares (suc m) (λ i. now (at + i))) (shares at rows) (rest ++ gone) (subst (λ (rs : List (List ℕ)). AreNoMore (shares at now) rs) (shares_below at now rows below) (no_more_same (shares at now)))
    (no_more_both (now (at + 0)) (shares m (λ i. now (at + suc i))) rest gone
    (subst (λ (rs : List (List ℕ)). AreNoMore (now (at + 0)) rs) (ap now (let same : at + 0 ≡ at = omega arith in same) ∙ here) (no_more_same (now (at + 0))))
    (subst (λ (rs : List (List ℕ)). AreNoMore rs gone) (sym (shares_same m (λ i. now (at + suc i)) (λ i. dealt shape level (at + 1) gone (suc at + i)) (λ i. above (at + suc i) (omega arith) ∙ ap (dealt shape level (at + 1) gone) (let next : at + suc i ≡ suc at + i = omega arith in next))))
    (no_more_dealt shape level (at + 1) (suc at) m gone))))
