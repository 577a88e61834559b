-- Sums that are shared out: each value has one owner, and the owners' sums make the whole.
use Rattle.std.proofs.Common.{◌≡◌, ℕ, ◌+◌, ◌*◌, ◌≤◌, ◌==◌, ◌≢◌, Bool, true, false, Some, None, Option, refl, ap, sym, ◌∙◌, subst, List, [], ◌∷◌, arith, eq-eqb, ne_eqb, inl, inr}
use Rattle.std.specs.Ordering.{nat_cmp}
use Rattle.std.specs.FinMap.{FinMap, get, remove, entries}
use Rattle.reservation_tree.specs.Total.{weigh, total}
use Rattle.reservation_tree.proofs.Maps.{removed_same, removed_other, same_or_other}
use Rattle.reservation_tree.proofs.Sums.{total-remove, total-none, total-plus, total-same, total-le, weight-le-total}
use Rattle.pool_model.specs.Bytes.{only_if}

pub only_none : (b : Bool) → only_if b 0 ≡ 0
only_none true = refl
only_none false = refl

pub only_when : (b : Bool) (n : ℕ) → b ≡ true → only_if b n ≡ n
only_when b n is = ap (λ (c : Bool). only_if c n) is

pub only_not : (b : Bool) (n : ℕ) → b ≡ false → only_if b n ≡ 0
only_not b n is = ap (λ (c : Bool). only_if c n) is

pub only_less : (b : Bool) (n : ℕ) → only_if b n ≤ n
only_less true n = omega arith
only_less false n = omega arith

pub only_le : (b : Bool) (m n : ℕ) → m ≤ n → only_if b m ≤ only_if b n
only_le true m n le = le
only_le false m n le = omega arith

pub one_time : (n : ℕ) → 1 * n ≡ n
one_time n = omega arith

-- what is mine is nobody else's
pub mine : (c n : ℕ) → only_if (c == c) n ≡ n
mine c n = only_when (c == c) n (eq-eqb c c refl)

pub not_mine : (c d n : ℕ) → c ≢ d → only_if (c == d) n ≡ 0
not_mine c d n apart = only_not (c == d) n (ne_eqb c d apart)

module _ {X : Type 0} where
  pub only-total : (b : Bool) (w : ℕ → X → ℕ) (m : FinMap nat_cmp X) → only_if b (total w m) ≡ total (λ k x. only_if b (w k x)) m
  only-total true w m = refl
  only-total false w m = sym (total-none (λ _ _. 0) m (λ k x is. refl))

  -- one value alone weighs something
  pub total-single : (w : ℕ → X → ℕ) (m : FinMap nat_cmp X) (c : ℕ) (y : X) → get m c ≡ Some y
      → ((k : ℕ) (x : X) → get m k ≡ Some x → k ≢ c → w k x ≡ 0) → total w m ≡ w c y
  total-single w m c y is none =
      let rest : total w (remove m c) ≡ 0 = total-none w (remove m c) (λ k x there. elim (same_or_other k c) [
        | inl here ↦ let no : None ≡ Some x = sym (removed_same m c) ∙ ap (get (remove m c)) (sym here) ∙ there in cc
        | inr other ↦ none k x (sym (removed_other m c k other) ∙ there) other
      ]) in
      let whole : total w (remove m c) + w c y ≡ total w m = total-remove w m c (Some y) is in
      omega (arith, rest, whole)

  -- a sum stays below another by as much as one of its weights does
  pub total-spare : (w v : ℕ → X → ℕ) (m : FinMap nat_cmp X) (c : ℕ) (y : X) (n : ℕ) → get m c ≡ Some y
      → ((k : ℕ) (x : X) → get m k ≡ Some x → w k x ≤ v k x) → w c y + n ≤ v c y → total w m + n ≤ total v m
  total-spare w v m c y n is each more =
      let extra : ℕ → X → ℕ = λ k x. only_if (k == c) n in
      let sum : total (λ k x. w k x + extra k x) m ≡ total w m + total extra m = total-plus w extra m in
      let has : only_if (c == c) n ≤ total extra m = weight-le-total extra m c y is in
      let all : only_if (c == c) n ≡ n = mine c n in
      let above : total (λ k x. w k x + extra k x) m ≤ total v m = total-le (λ k x. w k x + extra k x) v m (λ k x there. elim (same_or_other k c) [
        | inl here ↦
            let it : Some x ≡ Some y = sym there ∙ ap (get m) here ∙ is in
            let same : x ≡ y = ap (λ (o : Option X). elim o [ None ↦ x | Some z ↦ z ]) it in
            subst (λ (z : X). w k z + extra k z ≤ v k z) (sym same)
            (subst (λ (q : ℕ). w q y + extra q y ≤ v q y) (sym here) (omega (arith, more, all)))
        | inr other ↦
            let none : only_if (k == c) n ≡ 0 = not_mine k c n other in
            let le : w k x ≤ v k x = each k x there in
            omega (arith, none, le)
      ]) in
      omega (arith, sum, has, all, above)

module _ {X Y : Type 0} where
  swap-entries : (f : ℕ → Y → ℕ → X → ℕ) (ts : FinMap nat_cmp Y) (es : List (ℕ × X))
      → total (λ c y. weigh (λ k x. f c y k x) es) ts ≡ weigh (λ k x. total (λ c y. f c y k x) ts) es
  swap-entries f ts [] = total-none (λ _ _. 0) ts (λ k x is. refl)
  swap-entries f ts (e ∷ es) =
      let parts : total (λ c y. f c y e.0 e.1 + weigh (λ k x. f c y k x) es) ts ≡ total (λ c y. f c y e.0 e.1) ts + total (λ c y. weigh (λ k x. f c y k x) es) ts =
      total-plus (λ c y. f c y e.0 e.1) (λ c y. weigh (λ k x. f c y k x) es) ts in
      let rest : total (λ c y. weigh (λ k x. f c y k x) es) ts ≡ weigh (λ k x. total (λ c y. f c y k x) ts) es = swap-entries f ts es in
      omega (arith, parts, rest)

  -- two sums in either order
  pub total-swap : (f : ℕ → Y → ℕ → X → ℕ) (ts : FinMap nat_cmp Y) (m : FinMap nat_cmp X)
      → total (λ c y. total (λ k x. f c y k x) m) ts ≡ total (λ k x. total (λ c y. f c y k x) ts) m
  unfolding total
  total-swap f ts m = swap-entries f ts (entries m)

  -- where the chosen owners' parts of each value make its weight, their sums make the whole
  pub by-owners : (chosen : Y → Bool) (part : ℕ → ℕ → X → ℕ) (w : ℕ → X → ℕ) (ts : FinMap nat_cmp Y) (m : FinMap nat_cmp X)
      → ((k : ℕ) (x : X) → get m k ≡ Some x → total (λ c y. only_if (chosen y) (part c k x)) ts ≡ w k x)
      → total (λ c y. only_if (chosen y) (total (part c) m)) ts ≡ total w m
  by-owners chosen part w ts m each =
      total-same (λ c y. only_if (chosen y) (total (part c) m)) (λ c y. total (λ k x. only_if (chosen y) (part c k x)) m) ts (λ c y is. only-total (chosen y) (part c) m)
      ∙ total-swap (λ c y k x. only_if (chosen y) (part c k x)) ts m
      ∙ total-same (λ k x. total (λ c y. only_if (chosen y) (part c k x)) ts) w m each
