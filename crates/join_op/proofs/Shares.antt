-- One more row in one of the partitions.
use Rattle.std.proofs.Common.{◌≡◌, ◌≢◌, ◌∙◌, ℕ, zero, suc, ◌+◌, ◌<◌, List, [], ◌∷◌, ◌++◌, refl, ap, ap₂, sym, inl, inr, arith, append-nil, ne_eqb, eq-eqb}
use Rattle.std.specs.List.{sum_by}
use Rattle.std.proofs.lemmas.Bool.{cases_eq}
use Rattle.std.proofs.lemmas.List.Sums.{sum_by-append, sum_by_push}
use Rattle.tuple_stream.specs.FamilyCalls.{shares, with_rows}

shares_same : (n : ℕ) (rows these : ℕ → List (List ℕ)) → ((i : ℕ) → rows i ≡ these i) → shares n rows ≡ shares n these
shares_same zero rows these same = refl
shares_same (suc n) rows these same = ap₂ (λ (a b : List (List ℕ)). a ++ b) (same 0) (shares_same n (λ i. rows (suc i)) (λ i. these (suc i)) (λ i. same (suc i)))

suc_apart : (i k : ℕ) → i ≢ k → suc i ≢ suc k
suc_apart i k apart same = apart (omega (arith, same))

zero_apart : (k : ℕ) → 0 ≢ suc k
zero_apart k same = omega (arith, same)

suc_none : (i : ℕ) → suc i ≢ 0
suc_none i same = omega (arith, same)

with_suc : (k : ℕ) (these : List (List ℕ)) (rows : ℕ → List (List ℕ)) (i : ℕ) → with_rows (suc k) these rows (suc i) ≡ with_rows k these (λ j. rows (suc j)) i
with_suc k these rows i =
    elim (cases_eq i k) [
      | inl same ↦ rw (eq-eqb (suc i) (suc k) (ap suc same), eq-eqb i k same) refl
      | inr apart ↦ rw (ne_eqb (suc i) (suc k) (suc_apart i k apart), ne_eqb i k apart) refl
    ]

pub one_more : (w : List ℕ → ℕ) (n k : ℕ) (rows : ℕ → List (List ℕ)) (row : List ℕ) → k < n → sum_by w (shares n (with_rows k (rows k ++ row ∷ []) rows)) ≡ sum_by w (shares n rows) + w row
one_more w zero k rows row inside = absurd (omega (arith, inside))
one_more w (suc n) zero rows row inside =
    let tail : shares n (λ i. with_rows 0 (rows 0 ++ row ∷ []) rows (suc i)) ≡ shares n (λ i. rows (suc i)) = shares_same n (λ i. with_rows 0 (rows 0 ++ row ∷ []) rows (suc i)) (λ i. rows (suc i)) (λ i. rw (ne_eqb (suc i) 0 (suc_none i)) refl) in
    let all : sum_by w ((rows 0 ++ row ∷ []) ++ shares n (λ i. with_rows 0 (rows 0 ++ row ∷ []) rows (suc i))) ≡ sum_by w (rows 0 ++ row ∷ []) + sum_by w (shares n (λ i. with_rows 0 (rows 0 ++ row ∷ []) rows (suc i))) = sum_by-append w (rows 0 ++ row ∷ []) (shares n (λ i. with_rows 0 (rows 0 ++ row ∷ []) rows (suc i))) in
    let same = ap (sum_by w) tail in
    let head : sum_by w (rows 0 ++ row ∷ []) ≡ sum_by w (rows 0) + w row = sum_by_push w (rows 0) row in
    let was : sum_by w (rows 0 ++ shares n (λ i. rows (suc i))) ≡ sum_by w (rows 0) + sum_by w (shares n (λ i. rows (suc i))) = sum_by-append w (rows 0) (shares n (λ i. rows (suc i))) in
    omega (arith, all, same, head, was)
one_more w (suc n) (suc k) rows row inside =
    let first : with_rows (suc k) (rows (suc k) ++ row ∷ []) rows 0 ≡ rows 0 = rw (ne_eqb 0 (suc k) (zero_apart k)) refl in
    let tail : shares n (λ i. with_rows (suc k) (rows (suc k) ++ row ∷ []) rows (suc i)) ≡ shares n (with_rows k (rows (suc k) ++ row ∷ []) (λ i. rows (suc i))) = shares_same n (λ i. with_rows (suc k) (rows (suc k) ++ row ∷ []) rows (suc i)) (with_rows k (rows (suc k) ++ row ∷ []) (λ i. rows (suc i))) (with_suc k (rows (suc k) ++ row ∷ []) rows) in
    let all : sum_by w (shares (suc n) (with_rows (suc k) (rows (suc k) ++ row ∷ []) rows)) ≡ sum_by w (with_rows (suc k) (rows (suc k) ++ row ∷ []) rows 0) + sum_by w (shares n (λ i. with_rows (suc k) (rows (suc k) ++ row ∷ []) rows (suc i))) = sum_by-append w (with_rows (suc k) (rows (suc k) ++ row ∷ []) rows 0) (shares n (λ i. with_rows (suc k) (rows (suc k) ++ row ∷ []) rows (suc i))) in
    let one = ap (sum_by w) first in
    let two = ap (sum_by w) tail in
    let rest : sum_by w (shares n (with_rows k (rows (suc k) ++ row ∷ []) (λ i. rows (suc i)))) ≡ sum_by w (shares n (λ i. rows (suc i))) + w row = one_more w n k (λ i. rows (suc i)) row (omega (arith, inside)) in
    let was : sum_by w (rows 0 ++ shares n (λ i. rows (suc i))) ≡ sum_by w (rows 0) + sum_by w (shares n (λ i. rows (suc i))) = sum_by-append w (rows 0) (shares n (λ i. rows (suc i))) in
    omega (arith, all, one, two, rest, was)

-- where nothing came they are as before
pub no_more : (k : ℕ) (rows : ℕ → List (List ℕ)) (i : ℕ) → with_rows k (rows k ++ []) rows i ≡ rows i
no_more k rows i = elim (cases_eq i k) [
  | inl same ↦ rw (eq-eqb i k same) (append-nil (rows k) ∙ ap rows (sym same))
  | inr apart ↦ rw (ne_eqb i k apart) refl
]
