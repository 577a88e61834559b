-- The map of entries follows the rows, where no two rows have one name.
use Rattle.std.proofs.Common.{◌≡◌, ◌⊎◌, ℕ, zero, suc, ◌≢◌, List, [], ◌∷◌, Option, Some, None, slice_index_or, refl, ap, sym, ◌∙◌, subst, inl, inr, arith}
use Rattle.std.specs.Ordering.{nat_cmp}
use Rattle.std.specs.FinMap.{insert, empty, get-empty}
use Rattle.std.specs.FinMap as map
use Rattle.slab.specs.Slab.{Slab, get}
use Rattle.page_table.specs.declared.row.Row.{Row}
use Rattle.page_table.specs.Slots.{entries_from, entries_in}
use Rattle.page_table.specs.Rows.{AreApart}
use Rattle.reservation_tree.proofs.Maps.{get_same, get_other, same_or_other}

-- the same value is found once
pub one_of : {X : Type 0} (o : Option X) (x y : X) → o ≡ Some x → o ≡ Some y → x ≡ y
one_of None x y a b = absurd (cc)
one_of (Some z) x y a b = cc

module _ {E : Type 0} where
  -- no row of these slots has the name
  abbrev NoneIn : List (Option (Row E)) → ℕ → Type 0
  NoneIn slots q = (i : ℕ) (row : Row E) → slice_index_or slots i None ≡ Some row → row.name ≢ q

  -- a row of these slots has the name
  record IsIn (slots : List (Option (Row E))) (q : ℕ) : Type 0 where
    at : ℕ
    row : Row E
    is : slice_index_or slots at None ≡ Some row
    named : row.name ≡ q

  abbrev Apart : List (Option (Row E)) → Type 0
  Apart slots = (i j : ℕ) (row other : Row E) → slice_index_or slots i None ≡ Some row → slice_index_or slots j None ≡ Some other → row.name ≡ other.name → i ≡ j

  apart_rest : (slot : Option (Row E)) (rest : List (Option (Row E))) → Apart (slot ∷ rest) → Apart rest
  apart_rest slot rest apart i j row other is there named =
      let both : suc i ≡ suc j = apart (suc i) (suc j) row other is there named in
      omega (arith, both)

  absent : (slots : List (Option (Row E))) (q : ℕ) → NoneIn slots q → map.get (entries_from slots) q ≡ None
  absent [] q none = get-empty nat_cmp q
  absent (None ∷ rest) q none = absent rest q (λ i row is. none (suc i) row is)
  absent (Some first ∷ rest) q none =
      let apart : q ≢ first.name = λ same. none 0 first refl (sym same) in
      get_other (entries_from rest) first.name first.entry q apart ∙ absent rest q (λ i row is. none (suc i) row is)

  there : (slots : List (Option (Row E))) → Apart slots → (i : ℕ) (row : Row E) → slice_index_or slots i None ≡ Some row → map.get (entries_from slots) row.name ≡ Some row.entry
  there [] apart i row is = absurd (cc)
  there (None ∷ rest) apart zero row is = absurd (cc)
  there (None ∷ rest) apart (suc i) row is = there rest (apart_rest None rest apart) i row is
  there (Some first ∷ rest) apart zero row is =
      let same : first ≡ row = one_of (Some first) first row refl is in
      subst (λ (r : Row E). map.get (insert (entries_from rest) first.name first.entry) r.name ≡ Some r.entry) same (get_same (entries_from rest) first.name first.entry)
  there (Some first ∷ rest) apart (suc i) row is =
      let other : row.name ≢ first.name = λ same. (
      let both : suc i ≡ zero = apart (suc i) zero row first is refl same in
      omega (arith, both)) in
      get_other (entries_from rest) first.name first.entry row.name other ∙ there rest (apart_rest (Some first) rest apart) i row is

  none_past : (first : Option (Row E)) (rest : List (Option (Row E))) (q : ℕ) → ((row : Row E) → first ≡ Some row → row.name ≢ q) → NoneIn rest q → NoneIn (first ∷ rest) q
  none_past first rest q here later zero row is = here row is
  none_past first rest q here later (suc i) row is = later i row is

  is_past : (first : Option (Row E)) (rest : List (Option (Row E))) (q : ℕ) → IsIn rest q → IsIn (first ∷ rest) q
  is_past first rest q found = record { at = suc found.at; row = found.row; is = found.is; named = found.named }

  found_in : (slots : List (Option (Row E))) (q : ℕ) → IsIn slots q ⊎ NoneIn slots q
  found_in [] q = inr (λ i row is. absurd (cc))
  found_in (None ∷ rest) q = elim (found_in rest q) [
    | inl found ↦ inl (is_past None rest q found)
    | inr none ↦ inr (none_past None rest q (λ row is. absurd (cc)) none)
  ]
  found_in (Some first ∷ rest) q = elim (same_or_other first.name q) [
    | inl same ↦ inl (record { at = zero; row = first; is = refl; named = same })
    | inr apart ↦ elim (found_in rest q) [
      | inl found ↦ inl (is_past (Some first) rest q found)
      | inr none ↦ inr (none_past (Some first) rest q (λ row is named. apart (ap (λ (r : Row E). r.name) (one_of (Some first) first row refl is) ∙ named)) none)
    ]
  ]

  -- a name has the entry of its row
  pub entry-there : (s : Slab (Row E)) → AreApart s → (k : ℕ) (row : Row E) → get s k ≡ Some row → map.get (entries_in s) row.name ≡ Some row.entry
  unfolding entries_in
  entry-there s apart k row is = there s.slots apart k row is

  pub entry-absent : (s : Slab (Row E)) (q : ℕ) → ((k : ℕ) (row : Row E) → get s k ≡ Some row → row.name ≢ q) → map.get (entries_in s) q ≡ None
  unfolding entries_in
  entry-absent s q none = absent s.slots q none

  -- the row of a name, if there is one
  pub row_named : (s : Slab (Row E)) (q : ℕ) → ((k : ℕ) × (row : Row E) × (get s k ≡ Some row) × (row.name ≡ q)) ⊎ ((k : ℕ) (row : Row E) → get s k ≡ Some row → row.name ≢ q)
  row_named s q = elim (found_in s.slots q) [
    | inl found ↦ inl (found.at, found.row, found.is, found.named)
    | inr none ↦ inr none
  ]

  pub entries-empty : (s : Slab (Row E)) → s.slots ≡ [] → entries_in s ≡ empty
  unfolding entries_in
  entries-empty s is = ap entries_from is
