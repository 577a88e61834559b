-- A map of std and the finite map that it is.
use Rattle.std.proofs.Common.{◌≡◌, ℕ, List, [], ◌∷◌, Bool, true, false, cond, Some, None, refl, ap, sym, ◌∙◌, inl, inr, eqb, ne_eqb}
use Rattle.std.specs.Ordering.{nat_cmp, eq_by_cmp}
use Rattle.std.specs.Cmp.{nat_cmp_total, unsigned_tied}
use Rattle.std.specs.FinMap.{get, insert, remove, empty, find, get-from_entries, get-insert, get-remove}
use Rattle.std.specs.BTreeMap as tree
use Rattle.std.specs.BTreeMap.{BTreeMap, is_at}
use Rattle.std.specs.Map.{lookup}
use Rattle.reservation_tree.proofs.Maps.{alike, same_or_other}
use Rattle.trace_follow.specs.Tables.{rows_in}

same_either : (k q : ℕ) → eqb k q ≡ eqb q k
same_either k q = elim (same_or_other k q) [
  | inl same ↦ ap (λ (n : ℕ). eqb n q) same ∙ ap (λ (n : ℕ). eqb q n) (sym same)
  | inr other ↦ ne_eqb k q other ∙ sym (ne_eqb q k (λ same. other (sym same)))
]

-- a key is the number in either order
same_key : (k q : ℕ) → is_at (nat_cmp k) q ≡ eq_by_cmp nat_cmp q k
same_key k q = unsigned_tied k q ∙ same_either k q ∙ sym (unsigned_tied q k)

module _ {X : Type 0} where
  found_in : (es : List (ℕ × X)) (q : ℕ) → find nat_cmp q es ≡ lookup (is_at (nat_cmp q)) es
  found_in [] q = refl
  found_in (e ∷ es) q = elim (is_at (nat_cmp q) e.0) as (λ b. cond b (Some e.1) (find nat_cmp q es) ≡ cond b (Some e.1) (lookup (is_at (nat_cmp q)) es)) [
    | true ↦ refl
    | false ↦ found_in es q
  ]

  pub row_in : (m : BTreeMap ℕ X) (q : ℕ) → get (rows_in m) q ≡ tree.get nat_cmp m q
  unfolding rows_in
  row_in m q = get-from_entries nat_cmp_total m.entries q ∙ found_in m.entries q

  pub none_in : (m : BTreeMap ℕ X) → m.entries ≡ [] → rows_in m ≡ empty
  unfolding rows_in
  none_in m none = rw none refl

  pub put_in : (old new : BTreeMap ℕ X) (k : ℕ) (w : X) → tree.Updates nat_cmp old new k (Some w) → rows_in new ≡ insert (rows_in old) k w
  put_in old new k w updates = alike _ _ (λ q.
      row_in new q ∙ updates.0 q ∙ ap (λ (b : Bool). cond b (Some w) (tree.get nat_cmp old q)) (same_key k q) ∙ ap (cond (eq_by_cmp nat_cmp q k) (Some w)) (sym (row_in old q))
      ∙ sym (get-insert nat_cmp_total (rows_in old) k w q))

  pub taken_from : (old new : BTreeMap ℕ X) (k : ℕ) → tree.Updates nat_cmp old new k None → rows_in new ≡ remove (rows_in old) k
  taken_from old new k updates = alike _ _ (λ q.
      row_in new q ∙ updates.0 q ∙ ap (λ (b : Bool). cond b None (tree.get nat_cmp old q)) (same_key k q) ∙ ap (cond (eq_by_cmp nat_cmp q k) None) (sym (row_in old q))
      ∙ sym (get-remove nat_cmp_total (rows_in old) k q))
