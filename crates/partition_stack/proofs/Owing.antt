-- How often rows may go to deeper partitions still, once one of them was divided or went.
use Rattle.std.proofs.Common.{◌≡◌, ◌∙◌, ℕ, zero, suc, ◌+◌, ◌-◌, ◌*◌, ◌<◌, ◌≤◌, List, [], ◌∷◌, ◌++◌, length, replicate, set, take, Some, ap, arith, length-append}
use Rattle.std.specs.Prelude.{slice_get}
use Rattle.std.proofs.Math.Nat.{mul-le-mul_right}
use Rattle.std.proofs.lemmas.List.{length-set}
use Rattle.std.proofs.lemmas.Option.{none-some, same_Some}
use Rattle.tuple_stream.specs.FamilyCalls.{shares}
use Rattle.partition_stack.specs.Making.{owed}

owed_as : (levels : List ℕ) (rows these : ℕ → List (List ℕ)) → ((i : ℕ) → rows i ≡ these i) → owed levels rows ≡ owed levels these
owed_as [] rows these same = omega arith
owed_as (x ∷ levels) rows these same =
    let here : length (rows 0) * (16 - x) ≡ length (these 0) * (16 - x) = ap (λ (rs : List (List ℕ)). length rs * (16 - x)) (same 0) in
    let rest = owed_as levels (λ i. rows (suc i)) (λ i. these (suc i)) (λ i. same (suc i)) in
    omega (arith, here, rest)

owed_behind : (xs ys : List ℕ) (rows behind : ℕ → List (List ℕ)) → ((i : ℕ) → rows (length xs + i) ≡ behind i) → owed (xs ++ ys) rows ≡ owed xs rows + owed ys behind
owed_behind [] ys rows behind same =
    let all = owed_as ys rows behind (λ i. ap rows (let none : i ≡ 0 + i = omega arith in none) ∙ same i) in
    omega (arith, all)
owed_behind (x ∷ xs) ys rows behind same =
    let rest = owed_behind xs ys (λ i. rows (suc i)) behind (λ i. ap rows (let next : suc (length xs + i) ≡ suc (length xs) + i = omega arith in next) ∙ same i) in
    omega (arith, rest)

-- partitions of one level
owed_alike : (n level : ℕ) (rows : ℕ → List (List ℕ)) → owed (replicate n level) rows ≡ length (shares n rows) * (16 - level)
owed_alike zero level rows = omega arith
owed_alike (suc n) level rows =
    let rest = owed_alike n level (λ i. rows (suc i)) in
    let both : length (rows 0 ++ shares n (λ i. rows (suc i))) * (16 - level) ≡ (length (rows 0) + length (shares n (λ i. rows (suc i)))) * (16 - level) = ap (λ (k : ℕ). k * (16 - level)) (length-append (rows 0) (shares n (λ i. rows (suc i)))) in
    let sum = two_products (length (rows 0)) (length (shares n (λ i. rows (suc i)))) (16 - level) in
    omega (arith, rest, both, sum)
  where
    two_products : (a b k : ℕ) → (a + b) * k ≡ a * k + b * k
    two_products a b k = omega arith

-- the sixteen of the first level
pub owed_first : (levels : List ℕ) (rows : ℕ → List (List ℕ)) → levels ≡ replicate 16 1 → owed levels rows ≡ 15 * length (shares 16 rows)
owed_first levels rows first =
    let all : owed levels rows ≡ length (shares 16 rows) * 15 = ap (λ (ls : List ℕ). owed ls rows) first ∙ owed_alike 16 1 rows in
    omega (arith, all)

-- the top one went
pub owed_popped : (levels : List ℕ) (at level : ℕ) (rows : ℕ → List (List ℕ)) → slice_get levels at ≡ Some level → owed (take at levels) rows + length (rows at) * (16 - level) ≤ owed levels rows
owed_popped [] at level rows there = absurd (none-some level there)
owed_popped (x ∷ levels) zero level rows there =
    let same : length (rows 0) * (16 - x) ≡ length (rows 0) * (16 - level) = ap (λ (l : ℕ). length (rows 0) * (16 - l)) (same_Some x level there) in
    omega (arith, same)
owed_popped (x ∷ levels) (suc at) level rows there =
    let rest = owed_popped levels at level (λ i. rows (suc i)) there in
    omega (arith, rest)

-- it has no rows any more, whatever its level
owed_emptied : (levels : List ℕ) (at level deeper : ℕ) (rows left : ℕ → List (List ℕ)) → slice_get levels at ≡ Some level → length levels ≡ at + 1 → ((i : ℕ) → i < at → left i ≡ rows i) → left at ≡ []
    → owed (set levels at deeper) left + length (rows at) * (16 - level) ≤ owed levels rows
owed_emptied [] at level deeper rows left there long below here = absurd (none-some level there)
owed_emptied (x ∷ []) zero level deeper rows left there long below here =
    let same : length (rows 0) * (16 - x) ≡ length (rows 0) * (16 - level) = ap (λ (l : ℕ). length (rows 0) * (16 - l)) (same_Some x level there) in
    let none : length (left 0) * (16 - deeper) ≡ 0 = ap (λ (rs : List (List ℕ)). length rs * (16 - deeper)) here ∙ omega arith in
    omega (arith, same, none)
owed_emptied (x ∷ y ∷ levels) zero level deeper rows left there long below here = absurd (omega (arith, long))
owed_emptied (x ∷ levels) (suc at) level deeper rows left there long below here =
    let same : length (left 0) * (16 - x) ≡ length (rows 0) * (16 - x) = ap (λ (rs : List (List ℕ)). length rs * (16 - x)) (below 0 (omega arith)) in
    let rest = owed_emptied levels at level deeper (λ i. rows (suc i)) (λ i. left (suc i)) there (omega (arith, long)) (λ i low. below (suc i) (omega (arith, low))) here in
    omega (arith, same, rest)

-- its rows are in sixteen of the next level above it
pub owed_divided : (levels now : List ℕ) (at level : ℕ) (rows left : ℕ → List (List ℕ)) → slice_get levels at ≡ Some level → length levels ≡ at + 1 → level < 16 → now ≡ set levels at (level + 1) ++ replicate 16 (level + 1)
    → ((i : ℕ) → i < at → left i ≡ rows i) → left at ≡ [] → length (shares 16 (λ i. left (at + 1 + i))) ≤ length (rows at) → length (rows at) + owed now left ≤ owed levels rows
owed_divided levels now at level rows left there long deep is below here few =
    let front : length (set levels at (level + 1)) ≡ at + 1 = length-set levels at (level + 1) ∙ long in
    let whole : owed now left ≡ owed (set levels at (level + 1)) left + owed (replicate 16 (level + 1)) (λ i. left (at + 1 + i)) =
    ap (λ (ls : List ℕ). owed ls left) is ∙ owed_behind (set levels at (level + 1)) (replicate 16 (level + 1)) left (λ i. left (at + 1 + i)) (λ i. ap (λ (n : ℕ). left (n + i)) front) in
    let fan = owed_alike 16 (level + 1) (λ i. left (at + 1 + i)) in
    let rest = owed_emptied levels at level (level + 1) rows left there long below here in
    let most = mul-le-mul_right (16 - (level + 1)) few in
    let step : length (rows at) * (16 - level) ≡ length (rows at) * (16 - (level + 1)) + length (rows at) =
    ap (λ (n : ℕ). length (rows at) * n) (let next : 16 - level ≡ 16 - (level + 1) + 1 = omega (arith, deep) in next) ∙ one_more (length (rows at)) (16 - (level + 1)) in
    omega (arith, whole, fan, rest, most, step)
  where
    one_more : (r k : ℕ) → r * (k + 1) ≡ r * k + r
    one_more r k = omega arith

-- each row of a partition above the last level may go a level deeper
some_deeper : (many level : ℕ) → level < 16 → many ≤ many * (16 - level)
some_deeper many level deep =
    let one : 1 * many ≤ (16 - level) * many = mul-le-mul_right many (let some : 1 ≤ 16 - level = omega (arith, deep) in some) in
    let turned : (16 - level) * many ≡ many * (16 - level) = omega arith in
    omega (arith, one, turned)

pub owed_less : (levels : List ℕ) (at level : ℕ) (rows : ℕ → List (List ℕ)) → slice_get levels at ≡ Some level → level < 16 → owed (take at levels) rows + length (rows at) ≤ owed levels rows
owed_less levels at level rows there deep = let all = owed_popped levels at level rows there in let some = some_deeper (length (rows at)) level deep in omega (arith, all, some)
