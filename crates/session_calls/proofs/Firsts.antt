-- Sums over the first numbers, and sums over a map by what its values or keys are.
use Rattle.std.proofs.Common.{◌≡◌, ◌≢◌, ℕ, zero, suc, ◌+◌, ◌<◌, ◌==◌, Some, None, refl, sym, ap, ◌∙◌, arith, inl, inr, eq-eqb, ne_eqb}
use Rattle.std.specs.Ordering.{nat_cmp}
use Rattle.std.specs.FinMap.{FinMap, get, remove}
use Rattle.reservation_tree.specs.Total.{total, weight_at}
use Rattle.reservation_tree.proofs.Maps.{removed_same, same_or_other}
use Rattle.reservation_tree.proofs.Sums.{total-remove, total-same, total-none, total-plus}
use Rattle.pool_model.specs.Bytes.{only_if}

-- of the numbers below n
abbrev pub sum_first : (ℕ → ℕ) → ℕ → ℕ
sum_first f zero = 0
sum_first f (suc n) = f 0 + sum_first (λ q. f (suc q)) n

pub first_same : (f g : ℕ → ℕ) (n : ℕ) → ((q : ℕ) → q < n → f q ≡ g q) → sum_first f n ≡ sum_first g n
first_same f g zero same = refl
first_same f g (suc n) same =
    let here : f 0 ≡ g 0 = same 0 (omega arith) in
    let rest : sum_first (λ q. f (suc q)) n ≡ sum_first (λ q. g (suc q)) n = first_same (λ q. f (suc q)) (λ q. g (suc q)) n (λ q low. same (suc q) (omega (arith, low))) in
    omega (arith, here, rest)

pub first_none : (f : ℕ → ℕ) (n : ℕ) → ((q : ℕ) → q < n → f q ≡ 0) → sum_first f n ≡ 0
first_none f zero none = refl
first_none f (suc n) none =
    let here : f 0 ≡ 0 = none 0 (omega arith) in
    let rest : sum_first (λ q. f (suc q)) n ≡ 0 = first_none (λ q. f (suc q)) n (λ q low. none (suc q) (omega (arith, low))) in
    omega (arith, here, rest)

pub first_plus : (f g : ℕ → ℕ) (n : ℕ) → sum_first (λ q. f q + g q) n ≡ sum_first f n + sum_first g n
first_plus f g zero = refl
first_plus f g (suc n) = let rest = first_plus (λ q. f (suc q)) (λ q. g (suc q)) n in omega (arith, rest)

suc_apart : (k q : ℕ) → k ≢ q → suc k ≢ suc q
suc_apart k q apart is = apart (omega (arith, is))

eq_suc : (k q : ℕ) → (suc k == suc q) ≡ (k == q)
eq_suc k q = elim (same_or_other k q) [
  | inl is ↦ eq-eqb (suc k) (suc q) (ap (λ n. suc n) is) ∙ sym (eq-eqb k q is)
  | inr apart ↦ ne_eqb (suc k) (suc q) (suc_apart k q apart) ∙ sym (ne_eqb k q apart)
]

zero_apart : (q : ℕ) → zero ≢ suc q
zero_apart q is = absurd (omega (arith, is))

-- one of them is this number
pub first_one : (k n w : ℕ) → k < n → sum_first (λ q. only_if (k == q) w) n ≡ w
first_one k zero w low = absurd (omega (arith, low))
first_one zero (suc n) w low =
    let rest : sum_first (λ q. only_if (zero == suc q) w) n ≡ 0 = first_none (λ q. only_if (zero == suc q) w) n (λ q small. ap (λ b. only_if b w) (ne_eqb zero (suc q) (zero_apart q))) in
    omega (arith, rest)
first_one (suc k) (suc n) w low =
    let none : only_if (suc k == zero) w ≡ 0 = ap (λ b. only_if b w) (ne_eqb (suc k) zero (λ is. zero_apart k (sym is))) in
    let shift : sum_first (λ q. only_if (suc k == suc q) w) n ≡ sum_first (λ q. only_if (k == q) w) n = first_same (λ q. only_if (suc k == suc q) w) (λ q. only_if (k == q) w) n (λ q small. ap (λ b. only_if b w) (eq_suc k q)) in
    let rest : sum_first (λ q. only_if (k == q) w) n ≡ w = first_one k n w (omega (arith, low)) in
    omega (arith, none, shift, rest)

module _ {X : Type 0} where
  -- the sum of sums is the sum of sums
  pub total_first : (g : ℕ → X → ℕ → ℕ) (m : FinMap nat_cmp X) (n : ℕ) → total (λ k x. sum_first (g k x) n) m ≡ sum_first (λ q. total (λ k x. g k x q) m) n
  total_first g m zero = total-none (λ k x. 0) m (λ k x there. refl)
  total_first g m (suc n) =
      let both : total (λ k x. g k x 0 + sum_first (λ q. g k x (suc q)) n) m ≡ total (λ k x. g k x 0) m + total (λ k x. sum_first (λ q. g k x (suc q)) n) m = total-plus (λ k x. g k x 0) (λ k x. sum_first (λ q. g k x (suc q)) n) m in
      let rest : total (λ k x. sum_first (λ q. g k x (suc q)) n) m ≡ sum_first (λ q. total (λ k x. g k x (suc q)) m) n = total_first (λ k x q. g k x (suc q)) m n in
      omega (arith, both, rest)

  -- a sum by a number below n that each value has
  pub total_by : (of : ℕ → X → ℕ) (w : ℕ → X → ℕ) (m : FinMap nat_cmp X) (n : ℕ) → ((k : ℕ) (x : X) → get m k ≡ Some x → of k x < n)
      → total w m ≡ sum_first (λ q. total (λ k x. only_if (of k x == q) (w k x)) m) n
  total_by of w m n low =
      total-same w (λ k x. sum_first (λ q. only_if (of k x == q) (w k x)) n) m (λ k x there. sym (first_one (of k x) n (w k x) (low k x there)))
      ∙ total_first (λ k x q. only_if (of k x == q) (w k x)) m n

  none_is : (x : X) → None ≡ Some x → ⊥
  none_is x is = cc

  -- the one value under a key
  pub total_at : (w : ℕ → X → ℕ) (m : FinMap nat_cmp X) (q : ℕ) → total (λ k x. only_if (k == q) (w k x)) m ≡ weight_at w q (get m q)
  total_at w m q =
      let v : ℕ → X → ℕ = λ k x. only_if (k == q) (w k x) in
      let rest : total v (remove m q) ≡ 0 = total-none v (remove m q) (λ k x there. elim (same_or_other k q) [
        | inl here ↦ absurd (none_is x (sym (removed_same m q) ∙ ap (get (remove m q)) (sym here) ∙ there))
        | inr apart ↦ ap (λ b. only_if b (w k x)) (ne_eqb k q apart)
      ]) in
      let both : total v (remove m q) + weight_at v q (get m q) ≡ total v m = total-remove v m q (get m q) refl in
      let one : weight_at v q (get m q) ≡ weight_at w q (get m q) = elim (get m q) as (λ o. weight_at v q o ≡ weight_at w q o) [
        | None ↦ refl
        | Some x ↦ ap (λ b. only_if b (w q x)) (eq-eqb q q refl)
      ] in
      omega (arith, rest, both, one)

  -- a sum over a map whose keys are below n
  pub total_keys : (w : ℕ → X → ℕ) (m : FinMap nat_cmp X) (n : ℕ) → ((k : ℕ) (x : X) → get m k ≡ Some x → k < n) → total w m ≡ sum_first (λ q. weight_at w q (get m q)) n
  total_keys w m n low =
      total_by (λ k x. k) w m n low
      ∙ first_same (λ q. total (λ k x. only_if (k == q) (w k x)) m) (λ q. weight_at w q (get m q)) n (λ q small. total_at w m q)
