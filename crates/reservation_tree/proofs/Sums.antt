-- Sums over maps, when an entry comes, changes or goes.
use Rattle.std.proofs.Common.{◌≡◌, ℕ, ◌+◌, ◌≤◌, Bool, true, false, cond, T, ◌&&◌, Option, Some, None, refl, ap, sym, ◌∙◌, subst, List, [], ◌∷◌, arith, Less, Equal, Greater, is_eq, is_lt, Ordering, length, le_of_eq, inl, inr}
use Rattle.std.specs.Ordering.{nat_cmp}
use Rattle.std.specs.Cmp.{nat_cmp_total}
use Rattle.std.specs.FinMap.{FinMap, get, insert, remove, entries, entries_sorted, entries-insert, get-entries, find, put, is_sorted, len, len-entries, nat_cmp-IsAntisymmetric}
use Rattle.std.specs.FinMap.Entries.{below_all, by_order}
use Rattle.reservation_tree.specs.Total.{weigh, total, weight_at}
use Rattle.reservation_tree.proofs.Maps.{removed_same, put_back, none_removed, same_number, other_number, same_or_other}

first : (a b : Bool) → T (a && b) → T a
first true b h = tt
first false b h = h

second : (a b : Bool) → T (a && b) → T b
second true b h = h
second false b h = absurd h

is_less : (o : Ordering) → T (is_lt o) → o ≡ Less
is_less Less h = refl
is_less Equal h = absurd h
is_less Greater h = absurd h

module _ {X : Type 0} where
  not_found : (k : ℕ) (es : List (ℕ × X)) → T (below_all nat_cmp k es) → find nat_cmp k es ≡ None
  not_found k [] h = refl
  not_found k (e ∷ es) h =
      ap (λ (r : Ordering). cond (is_eq r) (Some e.1) (find nat_cmp k es)) (is_less _ (first _ _ h))
      ∙ not_found k es (second _ _ h)

  below_too : (k j : ℕ) (es : List (ℕ × X)) → nat_cmp k j ≡ Less → T (below_all nat_cmp j es) → T (below_all nat_cmp k es)
  below_too k j [] p h = tt
  below_too k j (e ∷ es) p h =
      let here : nat_cmp k e.0 ≡ Less = nat_cmp_total.trans k j e.0 p (is_less _ (first _ _ h)) in
      subst (λ (r : Ordering). T (is_lt r && below_all nat_cmp k es)) (sym here) (below_too k j es p (second _ _ h))

  weigh-put : (w : ℕ → X → ℕ) (k : ℕ) (v : X) (es : List (ℕ × X)) → T (is_sorted nat_cmp es)
      → weigh w (put nat_cmp k v es) + weight_at w k (find nat_cmp k es) ≡ weigh w es + w k v
  weigh-put w k v [] h = omega arith
  weigh-put w k v (e ∷ es) h =
      elim (nat_cmp k e.0) as (λ r. nat_cmp k e.0 ≡ r →
      weigh w (by_order r ((k, v) ∷ e ∷ es) ((e.0, v) ∷ es) (e ∷ put nat_cmp k v es)) + weight_at w k (cond (is_eq r) (Some e.1) (find nat_cmp k es))
      ≡ (w e.0 e.1 + weigh w es) + w k v) [
        | Less ↦ λ p.
            let none : weight_at w k (find nat_cmp k es) ≡ 0 = ap (weight_at w k) (not_found k es (below_too k e.0 es p (first _ _ h))) in
            omega (arith, none)
        | Equal ↦ λ p.
            let same : k ≡ e.0 = nat_cmp-IsAntisymmetric k e.0 p in
            let old : w k e.1 ≡ w e.0 e.1 = ap (λ (q : ℕ). w q e.1) same in
            let new : w k v ≡ w e.0 v = ap (λ (q : ℕ). w q v) same in
            omega (arith, old, new)
        | Greater ↦ λ p.
            let rest : weigh w (put nat_cmp k v es) + weight_at w k (find nat_cmp k es) ≡ weigh w es + w k v = weigh-put w k v es (second _ _ h) in
            omega (arith, rest)
      ] refl

  -- a value comes in place of what the key had, if it had one
  pub total-insert : (w : ℕ → X → ℕ) (m : FinMap nat_cmp X) (k : ℕ) (v : X)
      → total w (insert m k v) + weight_at w k (get m k) ≡ total w m + w k v
  unfolding total
  total-insert w m k v =
      let put_in : weigh w (entries (insert m k v)) ≡ weigh w (put nat_cmp k v (entries m)) = ap (weigh w) (entries-insert nat_cmp_total m k v) in
      let old : weight_at w k (get m k) ≡ weight_at w k (find nat_cmp k (entries m)) = ap (weight_at w k) (get-entries m k) in
      let sums : weigh w (put nat_cmp k v (entries m)) + weight_at w k (find nat_cmp k (entries m)) ≡ weigh w (entries m) + w k v = weigh-put w k v (entries m) (entries_sorted m) in
      omega (arith, put_in, old, sums)

  -- what the key had goes
  pub total-remove : (w : ℕ → X → ℕ) (m : FinMap nat_cmp X) (k : ℕ) (o : Option X) → get m k ≡ o
      → total w (remove m k) + weight_at w k o ≡ total w m
  total-remove w m k None is =
      let same : total w (remove m k) ≡ total w m = ap (total w) (none_removed m k is) in
      omega (arith, same)
  total-remove w m k (Some v) is =
      let whole : total w (insert (remove m k) k v) ≡ total w m = ap (total w) (put_back m k v is) in
      let none : weight_at w k (get (remove m k) k) ≡ 0 = ap (weight_at w k) (removed_same m k) in
      let both : total w (insert (remove m k) k v) + weight_at w k (get (remove m k) k) ≡ total w (remove m k) + w k v = total-insert w (remove m k) k v in
      omega (arith, whole, none, both)

  -- one weight is at most the sum of all
  pub weight-le-total : (w : ℕ → X → ℕ) (m : FinMap nat_cmp X) (k : ℕ) (v : X) → get m k ≡ Some v → w k v ≤ total w m
  weight-le-total w m k v is =
      let gone : total w (remove m k) + w k v ≡ total w m = total-remove w m k (Some v) is in
      omega (arith, gone)

  -- what stands in a later entry isn't hidden by an earlier one
  found_later : (k : ℕ) (x : X) (e : ℕ × X) (es : List (ℕ × X)) → T (below_all nat_cmp e.0 es) → find nat_cmp k es ≡ Some x → find nat_cmp k (e ∷ es) ≡ Some x
  found_later k x e es h is =
      elim (same_or_other k e.0) as (λ _. find nat_cmp k (e ∷ es) ≡ Some x) [
        | inl here ↦
            let none : find nat_cmp k es ≡ None = ap (λ (q : ℕ). find nat_cmp q es) here ∙ not_found e.0 es h in
            cc
        | inr there ↦ ap (λ (b : Bool). cond b (Some e.1) (find nat_cmp k es)) (other_number k e.0 there) ∙ is
      ]

  weigh-le : (w v : ℕ → X → ℕ) (es : List (ℕ × X)) → T (is_sorted nat_cmp es)
      → ((k : ℕ) (x : X) → find nat_cmp k es ≡ Some x → w k x ≤ v k x) → weigh w es ≤ weigh v es
  weigh-le w v [] h each = omega arith
  weigh-le w v (e ∷ es) h each =
      let here : w e.0 e.1 ≤ v e.0 e.1 = each e.0 e.1 (ap (λ (b : Bool). cond b (Some e.1) (find nat_cmp e.0 es)) (same_number e.0)) in
      let rest : weigh w es ≤ weigh v es = weigh-le w v es (second _ _ h) (λ k x is. each k x (found_later k x e es (first _ _ h) is)) in
      omega (arith, here, rest)

  -- weights that are nowhere greater have no greater sum
  pub total-le : (w v : ℕ → X → ℕ) (m : FinMap nat_cmp X) → ((k : ℕ) (x : X) → get m k ≡ Some x → w k x ≤ v k x) → total w m ≤ total v m
  unfolding total
  total-le w v m each = weigh-le w v (entries m) (entries_sorted m) (λ k x is. each k x (get-entries m k ∙ is))

  -- weights that agree have one sum
  pub total-same : (w v : ℕ → X → ℕ) (m : FinMap nat_cmp X) → ((k : ℕ) (x : X) → get m k ≡ Some x → w k x ≡ v k x) → total w m ≡ total v m
  total-same w v m each =
      let up : total w m ≤ total v m = total-le w v m (λ k x is. le_of_eq (each k x is)) in
      let down : total v m ≤ total w m = total-le v w m (λ k x is. le_of_eq (sym (each k x is))) in
      omega arith

  weigh-none : (es : List (ℕ × X)) → weigh (λ _ _. 0) es ≡ 0
  weigh-none [] = refl
  weigh-none (e ∷ es) = let rest : weigh (λ _ _. 0) es ≡ 0 = weigh-none es in omega (arith, rest)

  -- where nothing weighs, the sum is nothing
  pub total-none : (w : ℕ → X → ℕ) (m : FinMap nat_cmp X) → ((k : ℕ) (x : X) → get m k ≡ Some x → w k x ≡ 0) → total w m ≡ 0
  unfolding total
  total-none w m each = total-same w (λ _ _. 0) m each ∙ weigh-none (entries m)

  weigh-plus : (w v : ℕ → X → ℕ) (es : List (ℕ × X)) → weigh (λ k x. w k x + v k x) es ≡ weigh w es + weigh v es
  weigh-plus w v [] = omega arith
  weigh-plus w v (e ∷ es) =
      let rest : weigh (λ k x. w k x + v k x) es ≡ weigh w es + weigh v es = weigh-plus w v es in
      omega (arith, rest)

  -- the sum of two weights is summed in two sums
  pub total-plus : (w v : ℕ → X → ℕ) (m : FinMap nat_cmp X) → total (λ k x. w k x + v k x) m ≡ total w m + total v m
  unfolding total
  total-plus w v m = weigh-plus w v (entries m)

  weigh-one : (es : List (ℕ × X)) → weigh (λ _ _. 1) es ≡ length es
  weigh-one [] = refl
  weigh-one (e ∷ es) = let rest : weigh (λ _ _. 1) es ≡ length es = weigh-one es in omega (arith, rest)

  -- where each weighs one, the sum is how many there are
  pub total-one : (m : FinMap nat_cmp X) → total (λ _ _. 1) m ≡ len m
  unfolding total
  total-one m = weigh-one (entries m) ∙ sym (len-entries m)
