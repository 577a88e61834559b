-- Maps whose values are replaced each by what a function gives of its key and it.
use Rattle.std.proofs.Common.{◌≡◌, ℕ, Bool, true, false, cond, List, [], ◌∷◌, map, Option, Some, None, option_map, refl, ap, sym, ◌∙◌, inl, inr, subst}
use Rattle.std.specs.Ordering.{nat_cmp, eq_by_cmp}
use Rattle.std.specs.Cmp.{nat_cmp_total}
use Rattle.std.specs.FinMap.{FinMap, get, insert, remove, entries, get-from_entries, get-entries, find}
use Rattle.reservation_tree.proofs.Maps.{get_same, get_other, removed_same, removed_other, alike, same_or_other, same_number, other_number}
use Rattle.pin_core.specs.StateOf.{mapped}

module _ {X Y : Type 0} (f : ℕ → X → Y) where
  found_mapped : (es : List (ℕ × X)) (q : ℕ) → find nat_cmp q (map (λ e. (e.0, f e.0 e.1)) es) ≡ option_map (f q) (find nat_cmp q es)
  found_mapped [] q = refl
  found_mapped (e ∷ es) q = elim (same_or_other q e.0) [
    | inl here ↦
        let yes : eq_by_cmp nat_cmp q e.0 ≡ true = subst (λ (k : ℕ). eq_by_cmp nat_cmp q k ≡ true) here (same_number q) in
        ap (λ (b : Bool). cond b (Some (f e.0 e.1)) (find nat_cmp q (map (λ e. (e.0, f e.0 e.1)) es))) yes
        ∙ ap (λ (k : ℕ). Some (f k e.1)) (sym here)
        ∙ sym (ap (λ (b : Bool). option_map (f q) (cond b (Some e.1) (find nat_cmp q es))) yes)
    | inr there ↦
        let no_way : eq_by_cmp nat_cmp q e.0 ≡ false = other_number q e.0 there in
        ap (λ (b : Bool). cond b (Some (f e.0 e.1)) (find nat_cmp q (map (λ e. (e.0, f e.0 e.1)) es))) no_way
        ∙ found_mapped es q
        ∙ sym (ap (λ (b : Bool). option_map (f q) (cond b (Some e.1) (find nat_cmp q es))) no_way)
  ]

  pub get_mapped : (m : FinMap nat_cmp X) (q : ℕ) → get (mapped f m) q ≡ option_map (f q) (get m q)
  unfolding mapped
  get_mapped m q = get-from_entries nat_cmp_total (map (λ e. (e.0, f e.0 e.1)) (entries m)) q ∙ found_mapped (entries m) q ∙ sym (ap (λ (o : Option X). option_map (f q) o) (get-entries m q))

  pub mapped_put : (m : FinMap nat_cmp X) (k : ℕ) (x : X) → mapped f (insert m k x) ≡ insert (mapped f m) k (f k x)
  mapped_put m k x = alike _ _ (λ q. elim (same_or_other q k) [
    | inl here ↦
        ap (get (mapped f (insert m k x))) here ∙ get_mapped (insert m k x) k ∙ ap (λ (o : Option X). option_map (f k) o) (get_same m k x)
        ∙ sym (get_same (mapped f m) k (f k x)) ∙ ap (get (insert (mapped f m) k (f k x))) (sym here)
    | inr there ↦
        get_mapped (insert m k x) q ∙ ap (λ (o : Option X). option_map (f q) o) (get_other m k x q there) ∙ sym (get_mapped m q)
        ∙ sym (get_other (mapped f m) k (f k x) q there)
  ])

  pub mapped_gone : (m : FinMap nat_cmp X) (k : ℕ) → mapped f (remove m k) ≡ remove (mapped f m) k
  mapped_gone m k = alike _ _ (λ q. elim (same_or_other q k) [
    | inl here ↦
        ap (get (mapped f (remove m k))) here ∙ get_mapped (remove m k) k ∙ ap (λ (o : Option X). option_map (f k) o) (removed_same m k)
        ∙ sym (removed_same (mapped f m) k) ∙ ap (get (remove (mapped f m) k)) (sym here)
    | inr there ↦
        get_mapped (remove m k) q ∙ ap (λ (o : Option X). option_map (f q) o) (removed_other m k q there) ∙ sym (get_mapped m q)
        ∙ sym (removed_other (mapped f m) k q there)
  ])

-- two functions that agree on what a map has give the same
pub mapped_alike : {X Y : Type 0} (f g : ℕ → X → Y) (m : FinMap nat_cmp X) → ((q : ℕ) (x : X) → get m q ≡ Some x → f q x ≡ g q x) → mapped f m ≡ mapped g m
mapped_alike {X} f g m same = alike _ _ (λ q. get_mapped f m q ∙ elim (get m q) as (λ o. get m q ≡ o → option_map (f q) o ≡ option_map (g q) o) [
  | None ↦ λ is. refl
  | Some x ↦ λ is. ap Some (same q x is)
] refl ∙ sym (get_mapped g m q))

-- a later value takes the place of an earlier one
pub put_twice : {X : Type 0} (m : FinMap nat_cmp X) (k : ℕ) (x y : X) → insert (insert m k x) k y ≡ insert m k y
put_twice m k x y = alike _ _ (λ q. elim (same_or_other q k) [
  | inl here ↦ ap (get (insert (insert m k x) k y)) here ∙ get_same (insert m k x) k y ∙ sym (get_same m k y) ∙ ap (get (insert m k y)) (sym here)
  | inr there ↦ get_other (insert m k x) k y q there ∙ get_other m k x q there ∙ sym (get_other m k y q there)
])

-- a value that is there already changes nothing
pub put_again : {X : Type 0} (m : FinMap nat_cmp X) (k : ℕ) (x : X) → get m k ≡ Some x → insert m k x ≡ m
put_again m k x is = alike _ _ (λ q. elim (same_or_other q k) [
  | inl here ↦ ap (get (insert m k x)) here ∙ get_same m k x ∙ sym is ∙ ap (get m) (sym here)
  | inr there ↦ get_other m k x q there
])
