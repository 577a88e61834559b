-- The map of names follows the rows.
use Rattle.std.proofs.Common.{◌≡◌, ℕ, zero, suc, ◌+◌, ◌<◌, ◌≢◌, List, [], ◌∷◌, Option, Some, None, option_map, slice_index_or, ap, sym, ◌∙◌, subst, inl, inr, arith}
use Rattle.std.specs.Ordering.{nat_cmp}
use Rattle.std.specs.FinMap.{insert, remove, empty, get-empty}
use Rattle.std.specs.FinMap as map
use Rattle.slab.specs.Slab.{Slab, get, Updates}
use Rattle.page_table.specs.declared.row.Row.{Row}
use Rattle.page_table.specs.Slots.{names_from, names_in}
use Rattle.reservation_tree.proofs.Maps.{get_same, get_other, removed_same, removed_other, alike, same_or_other}

module _ {E : Type 0} where
  abbrev pub name_in : Row E → ℕ
  name_in row = row.name

  before : (key : ℕ) (slots : List (Option (Row E))) (q : ℕ) → q < key → map.get (names_from key slots) q ≡ None
  before key [] q low = get-empty nat_cmp q
  before key (None ∷ rest) q low = before (key + 1) rest q (omega (arith, low))
  before key (Some x ∷ rest) q low =
      let apart : q ≢ key = λ same. omega (arith, same, low) in
      get_other (names_from (key + 1) rest) key x.name q apart ∙ before (key + 1) rest q (omega (arith, low))

  later : (key i : ℕ) (rest : List (Option (Row E))) → map.get (names_from (key + 1) rest) ((key + 1) + i) ≡ option_map name_in (slice_index_or rest i None) → map.get (names_from (key + 1) rest) (key + suc i) ≡ option_map name_in (slice_index_or rest i None)
  later key i rest is =
      let same : (key + 1) + i ≡ key + suc i = omega arith in
      subst (λ (q : ℕ). map.get (names_from (key + 1) rest) q ≡ option_map name_in (slice_index_or rest i None)) same is

  at_key : (key : ℕ) (slots : List (Option (Row E))) (i : ℕ) → map.get (names_from key slots) (key + i) ≡ option_map name_in (slice_index_or slots i None)
  at_key key [] i = get-empty nat_cmp (key + i)
  at_key key (None ∷ rest) zero = before (key + 1) rest (key + zero) (omega arith)
  at_key key (None ∷ rest) (suc i) = later key i rest (at_key (key + 1) rest i)
  at_key key (Some x ∷ rest) zero =
      let here : key + zero ≡ key = omega arith in
      ap (map.get (insert (names_from (key + 1) rest) key x.name)) here ∙ get_same (names_from (key + 1) rest) key x.name
  at_key key (Some x ∷ rest) (suc i) =
      let apart : key + suc i ≢ key = λ same. omega (arith, same) in
      get_other (names_from (key + 1) rest) key x.name (key + suc i) apart ∙ later key i rest (at_key (key + 1) rest i)

  -- a key has the name of its row
  pub get-names : (s : Slab (Row E)) (q : ℕ) → map.get (names_in s) q ≡ option_map name_in (get s q)
  unfolding names_in
  get-names s q =
      let from_start : zero + q ≡ q = omega arith in
      subst (λ (k : ℕ). map.get (names_from 0 s.slots) k ≡ option_map name_in (get s q)) from_start (at_key 0 s.slots q)

  pub names-empty : (s : Slab (Row E)) → s.slots ≡ [] → names_in s ≡ empty
  unfolding names_in
  names-empty s is = ap (names_from 0) is

  pub names-put : (old new : Slab (Row E)) (k : ℕ) (row : Row E) → Updates old new k (Some row) → names_in new ≡ insert (names_in old) k row.name
  names-put old new k row up = alike (names_in new) (insert (names_in old) k row.name) (λ q. elim (same_or_other q k) [
    | inl here ↦
        get-names new q ∙ ap (λ (r : ℕ). option_map name_in (get new r)) here ∙ ap (option_map name_in) up.changed
        ∙ sym (get_same (names_in old) k row.name) ∙ ap (map.get (insert (names_in old) k row.name)) (sym here)
    | inr there ↦
        get-names new q ∙ ap (option_map name_in) (up.others q there) ∙ sym (get-names old q) ∙ sym (get_other (names_in old) k row.name q there)
  ])

  -- a row that keeps its name
  pub names-kept : (old new : Slab (Row E)) (k : ℕ) (row was : Row E) → Updates old new k (Some row) → get old k ≡ Some was → row.name ≡ was.name → names_in new ≡ names_in old
  names-kept old new k row was up is same = alike (names_in new) (names_in old) (λ q. elim (same_or_other q k) [
    | inl here ↦
        get-names new q ∙ ap (λ (r : ℕ). option_map name_in (get new r)) here ∙ ap (option_map name_in) up.changed ∙ ap Some same
        ∙ sym (ap (option_map name_in) is) ∙ ap (λ (r : ℕ). option_map name_in (get old r)) (sym here) ∙ sym (get-names old q)
    | inr there ↦ get-names new q ∙ ap (option_map name_in) (up.others q there) ∙ sym (get-names old q)
  ])

  pub names-gone : (old new : Slab (Row E)) (k : ℕ) → Updates old new k None → names_in new ≡ remove (names_in old) k
  names-gone old new k up = alike (names_in new) (remove (names_in old) k) (λ q. elim (same_or_other q k) [
    | inl here ↦
        get-names new q ∙ ap (λ (r : ℕ). option_map name_in (get new r)) here ∙ ap (option_map name_in) up.changed
        ∙ sym (removed_same (names_in old) k) ∙ ap (map.get (remove (names_in old) k)) (sym here)
    | inr there ↦
        get-names new q ∙ ap (option_map name_in) (up.others q there) ∙ sym (get-names old q) ∙ sym (removed_other (names_in old) k q there)
  ])
