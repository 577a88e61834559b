-- The rows of some partitions together.
use Rattle.std.proofs.Common.{◌≡◌, ◌≢◌, ℕ, zero, suc, ◌+◌, ◌-◌, ◌≤◌, ◌==◌, Bool, true, false, cond, List, [], ◌∷◌, ◌++◌, length, refl, ap, ap₂, arith, length-append, ne_eqb}
use Rattle.std.specs.Prelude.{filter}
use Rattle.tuple_stream.specs.FamilyCalls.{shares}

pub shares_same : (n : ℕ) (rows these : ℕ → List (List ℕ)) → ((i : ℕ) → rows i ≡ these i) → shares n rows ≡ shares n these
shares_same zero rows these same = refl
shares_same (suc n) rows these same = ap₂ (λ (a b : List (List ℕ)). a ++ b) (same 0) (shares_same n (λ i. rows (suc i)) (λ i. these (suc i)) (λ i. same (suc i)))

pub shares_none : (n : ℕ) → shares n (λ i. []) ≡ []
shares_none zero = refl
shares_none (suc n) = shares_none n

one_at_most : (b : Bool) (row : List ℕ) (rows : List (List ℕ)) → length (cond b (row ∷ rows) rows) ≤ suc (length rows)
one_at_most true row rows = omega arith
one_at_most false row rows = omega arith

-- one more in one of them
pub more_few : (n k : ℕ) (test : ℕ → Bool) (rows : ℕ → List (List ℕ)) (row : List ℕ) → ((i : ℕ) → i ≢ k → test i ≡ false) → length (shares n (λ i. cond (test i) (row ∷ rows i) (rows i))) ≤ suc (length (shares n rows))
more_few zero k test rows row others = omega arith
more_few (suc n) zero test rows row others =
    let here = one_at_most (test 0) row (rows 0) in
    let rest : length (shares n (λ i. cond (test (suc i)) (row ∷ rows (suc i)) (rows (suc i)))) ≡ length (shares n (λ i. rows (suc i))) =
    ap length (shares_same n (λ i. cond (test (suc i)) (row ∷ rows (suc i)) (rows (suc i))) (λ i. rows (suc i)) (λ i. ap (λ (b : Bool). cond b (row ∷ rows (suc i)) (rows (suc i))) (others (suc i) (λ same. omega (arith, same))))) in
    let now = length-append (cond (test 0) (row ∷ rows 0) (rows 0)) (shares n (λ i. cond (test (suc i)) (row ∷ rows (suc i)) (rows (suc i)))) in
    let was = length-append (rows 0) (shares n (λ i. rows (suc i))) in
    omega (arith, here, rest, now, was)
more_few (suc n) (suc k) test rows row others =
    let here : length (cond (test 0) (row ∷ rows 0) (rows 0)) ≡ length (rows 0) = ap (λ (b : Bool). length (cond b (row ∷ rows 0) (rows 0))) (others 0 (λ same. omega (arith, same))) in
    let rest = more_few n k (λ i. test (suc i)) (λ i. rows (suc i)) row (λ i apart. others (suc i) (λ same. apart (omega (arith, same)))) in
    let now = length-append (cond (test 0) (row ∷ rows 0) (rows 0)) (shares n (λ i. cond (test (suc i)) (row ∷ rows (suc i)) (rows (suc i)))) in
    let was = length-append (rows 0) (shares n (λ i. rows (suc i))) in
    omega (arith, here, rest, now, was)

-- rows that are dealt to those from a place on
pub dealt_few : (place : List ℕ → ℕ) (base n : ℕ) (xs : List (List ℕ)) → length (shares n (λ i. filter (λ row. place row == base + i) xs)) ≤ length xs
dealt_few place base n [] = let none : length (shares n (λ i. filter (λ row. place row == base + i) [])) ≡ 0 = ap length (shares_none n) in omega (arith, none)
dealt_few place base n (row ∷ xs) =
    let rest = dealt_few place base n xs in
    let more : length (shares n (λ i. filter (λ r. place r == base + i) (row ∷ xs))) ≤ suc (length (shares n (λ i. filter (λ r. place r == base + i) xs))) =
    more_few n (place row - base) (λ i. place row == base + i) (λ i. filter (λ r. place r == base + i) xs) row (λ i apart. ne_eqb (place row) (base + i) (λ same. apart (omega (arith, same)))) in
    omega (arith, rest, more)
