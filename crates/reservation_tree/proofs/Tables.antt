-- The map of what a slab holds follows the slab.
use Rattle.std.proofs.Common.{◌≡◌, ℕ, zero, suc, ◌+◌, ◌<◌, ◌≢◌, List, [], ◌∷◌, Option, Some, None, option_map, slice_index_or, ap, sym, ◌∙◌, subst, inl, inr, arith}
use Rattle.std.specs.Ordering.{nat_cmp}
use Rattle.std.specs.FinMap.{insert, remove, empty, get-empty}
use Rattle.std.specs.FinMap as map
use Rattle.slab.specs.Slab.{Slab, get, Updates}
use Rattle.reservation_tree.specs.Table.{table_from, table}
use Rattle.reservation_tree.proofs.Maps.{get_same, get_other, removed_same, removed_other, alike, same_or_other}

module _ {X Y : Type 0} (f : X → Y) where
  before : (key : ℕ) (slots : List (Option X)) (q : ℕ) → q < key → map.get (table_from f key slots) q ≡ None
  before key [] q low = get-empty nat_cmp q
  before key (None ∷ rest) q low = before (key + 1) rest q (omega (arith, low))
  before key (Some x ∷ rest) q low =
      let apart : q ≢ key = λ same. omega (arith, same, low) in
      get_other (table_from f (key + 1) rest) key (f x) q apart ∙ before (key + 1) rest q (omega (arith, low))

  later : (key i : ℕ) (rest : List (Option X)) → map.get (table_from f (key + 1) rest) ((key + 1) + i) ≡ option_map f (slice_index_or rest i None) → map.get (table_from f (key + 1) rest) (key + suc i) ≡ option_map f (slice_index_or rest i None)
  later key i rest is =
      let same : (key + 1) + i ≡ key + suc i = omega arith in
      subst (λ (q : ℕ). map.get (table_from f (key + 1) rest) q ≡ option_map f (slice_index_or rest i None)) same is

  at_key : (key : ℕ) (slots : List (Option X)) (i : ℕ) → map.get (table_from f key slots) (key + i) ≡ option_map f (slice_index_or slots i None)
  at_key key [] i = get-empty nat_cmp (key + i)
  at_key key (None ∷ rest) zero = before (key + 1) rest (key + zero) (omega arith)
  at_key key (None ∷ rest) (suc i) = later key i rest (at_key (key + 1) rest i)
  at_key key (Some x ∷ rest) zero =
      let here : key + zero ≡ key = omega arith in
      ap (map.get (insert (table_from f (key + 1) rest) key (f x))) here ∙ get_same (table_from f (key + 1) rest) key (f x)
  at_key key (Some x ∷ rest) (suc i) =
      let apart : key + suc i ≢ key = λ same. omega (arith, same) in
      get_other (table_from f (key + 1) rest) key (f x) (key + suc i) apart ∙ later key i rest (at_key (key + 1) rest i)

  pub get-table : (s : Slab X) (q : ℕ) → map.get (table f s) q ≡ option_map f (get s q)
  unfolding table
  get-table s q =
      let from_start : zero + q ≡ q = omega arith in
      subst (λ (k : ℕ). map.get (table_from f 0 s.slots) k ≡ option_map f (get s q)) from_start (at_key 0 s.slots q)

  pub get-table-Some : (s : Slab X) (q : ℕ) (x : X) → get s q ≡ Some x → map.get (table f s) q ≡ Some (f x)
  get-table-Some s q x is = get-table s q ∙ ap (option_map f) is

  pub table-empty : (s : Slab X) → s.slots ≡ [] → table f s ≡ empty
  unfolding table
  table-empty s is = ap (table_from f 0) is

  pub table-put : (old new : Slab X) (k : ℕ) (v : X) → Updates old new k (Some v) → table f new ≡ insert (table f old) k (f v)
  table-put old new k v up = alike (table f new) (insert (table f old) k (f v)) (λ q. elim (same_or_other q k) [
    | inl here ↦
        get-table new q ∙ ap (λ (r : ℕ). option_map f (get new r)) here ∙ ap (option_map f) up.changed
        ∙ sym (get_same (table f old) k (f v)) ∙ ap (map.get (insert (table f old) k (f v))) (sym here)
    | inr there ↦
        get-table new q ∙ ap (option_map f) (up.others q there) ∙ sym (get-table old q) ∙ sym (get_other (table f old) k (f v) q there)
  ])

  pub table-gone : (old new : Slab X) (k : ℕ) → Updates old new k None → table f new ≡ remove (table f old) k
  table-gone old new k up = alike (table f new) (remove (table f old) k) (λ q. elim (same_or_other q k) [
    | inl here ↦
        get-table new q ∙ ap (λ (r : ℕ). option_map f (get new r)) here ∙ ap (option_map f) up.changed
        ∙ sym (removed_same (table f old) k) ∙ ap (map.get (remove (table f old) k)) (sym here)
    | inr there ↦
        get-table new q ∙ ap (option_map f) (up.others q there) ∙ sym (get-table old q) ∙ sym (removed_other (table f old) k q there)
  ])

  -- a change that `f` doesn't see
  pub table-kept : (old new : Slab X) (k : ℕ) (v w : X) → Updates old new k (Some v) → get old k ≡ Some w → f v ≡ f w → table f new ≡ table f old
  table-kept old new k v w up is same = alike (table f new) (table f old) (λ q. elim (same_or_other q k) [
    | inl here ↦
        get-table new q ∙ ap (λ (r : ℕ). option_map f (get new r)) here ∙ ap (option_map f) up.changed ∙ ap Some same
        ∙ sym (get-table-Some old k w is) ∙ ap (map.get (table f old)) (sym here)
    | inr there ↦ get-table new q ∙ ap (option_map f) (up.others q there) ∙ sym (get-table old q)
  ])
