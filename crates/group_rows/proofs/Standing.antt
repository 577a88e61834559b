-- A table and streams stand for the rows that were fed, after each step.
use Rattle.std.proofs.Common.{◌≡◌, List, [], ◌∷◌, ◌++◌, map, refl, ap, sym, ◌∙◌, subst, append_assoc}
use Rattle.std.specs.Prelude.{All}
use Rattle.std.specs.List.Sorted.{IsPermutation}
use Rattle.std.proofs.lemmas.List.{map-append}
use Rattle.std.proofs.lemmas.List.Elements.{All-append, All-cons, All-nil}
use Rattle.std.proofs.lemmas.List.Sorted.{IsPermutation-append_comm, IsPermutation-append_right, IsPermutation-map, IsPermutation-to_front}
use Rattle.row_codec.specs.declared.values.Value.{Value}
use Rattle.row_codec.specs.Row.{IsValue}
use Rattle.group_rows.specs.Combining.{AreValues}
use Rattle.group_rows.specs.Keyed.{IsExactOrder, KeyOrder}
use Rattle.group_rows.specs.Partials.{Grouping, Partial, combine, combined_by, groups_by, key_of, partial_of}
use Rattle.group_rows.specs.Standing.{KeepsStanding, StandFor}
use Rattle.group_rows.proofs.Merged.{in_parts}
use Rattle.group_rows.proofs.Giving.{gives}
use Rattle.group_rows.proofs.Merging.{combines}
use Rattle.group_rows.proofs.Tables.{any_order, into_entry}

module _ (order : KeyOrder) (is_order : IsExactOrder order) (grouping : Grouping) where
  parts : (xs ys : List Partial) → combined_by order grouping (combined_by order grouping xs ++ ys) ≡ combined_by order grouping (xs ++ ys)
  parts xs ys = in_parts key_of (combine grouping) (combines grouping) order is_order xs ys

  -- what is combined to the same stays so with others behind
  pub with_others : (xs ys zs : List Partial) → combined_by order grouping xs ≡ combined_by order grouping ys → combined_by order grouping (xs ++ zs) ≡ combined_by order grouping (ys ++ zs)
  with_others xs ys zs same = sym (parts xs zs) ∙ ap (λ (ps : List Partial). combined_by order grouping (ps ++ zs)) same ∙ parts ys zs

  pub any_rows : (xs ys : List (List Value)) → AreValues xs → AreValues ys → IsPermutation xs ys → groups_by order grouping ys ≡ groups_by order grouping xs
  any_rows xs ys values values' same =
      sym (gives order is_order grouping ys values')
      ∙ any_order order is_order grouping (map (partial_of grouping) xs) (map (partial_of grouping) ys) (IsPermutation-map (partial_of grouping) xs ys same)
      ∙ gives order is_order grouping xs values

  turned : (ps qs : List Partial) → combined_by order grouping (ps ++ qs) ≡ combined_by order grouping (qs ++ ps)
  turned ps qs = any_order order is_order grouping (qs ++ ps) (ps ++ qs) (IsPermutation-append_comm qs ps)

  -- what stands for each part stands for all
  pub together : (fed more : List (List Value)) (ps qs : List Partial) → AreValues fed → AreValues more → StandFor order grouping fed ps → StandFor order grouping more qs
      → StandFor order grouping (fed ++ more) (ps ++ qs)
  together fed more ps qs values values' stand stand' =
      with_others ps (map (partial_of grouping) fed) qs (stand ∙ sym (gives order is_order grouping fed values))
      ∙ turned (map (partial_of grouping) fed) qs
      ∙ with_others qs (map (partial_of grouping) more) (map (partial_of grouping) fed) (stand' ∙ sym (gives order is_order grouping more values'))
      ∙ turned (map (partial_of grouping) more) (map (partial_of grouping) fed)
      ∙ ap (combined_by order grouping) (sym (map-append (partial_of grouping) fed more))
      ∙ gives order is_order grouping (fed ++ more) (All-append (λ r. All IsValue r) fed more values values')

  row_more : (fed : List (List Value)) (row : List Value) (entries streams : List Partial) → AreValues fed → All IsValue row → StandFor order grouping fed (entries ++ streams)
      → StandFor order grouping (fed ++ row ∷ []) (entries ++ partial_of grouping row ∷ streams)
  row_more fed row entries streams values good stand =
      let p : Partial = partial_of grouping row in
      let alone : AreValues (row ∷ []) = All-cons (λ r. All IsValue r) row [] good (All-nil (λ r. All IsValue r)) in
      any_order order is_order grouping ((entries ++ streams) ++ p ∷ []) (entries ++ p ∷ streams)
      (subst (λ (xs : List Partial). IsPermutation xs (entries ++ p ∷ streams)) (sym (append_assoc entries streams (p ∷ [])))
      (IsPermutation-append_right entries (streams ++ p ∷ []) (p ∷ streams) (IsPermutation-to_front streams p)))
      ∙ together fed (row ∷ []) (entries ++ streams) (p ∷ []) values alone stand (gives order is_order grouping (row ∷ []) alone)

  pub keeps_standing : KeepsStanding order grouping
  keeps_standing = record {
    none = refl;
    into_entry = λ fed row entries streams at entry values good there same stand.
        (into_entry order is_order grouping entries streams at entry (partial_of grouping row) there same).combined ∙ row_more fed row entries streams values good stand;
    behind = λ fed row entries streams values good stand.
        ap (combined_by order grouping) (append_assoc entries (partial_of grouping row ∷ []) streams) ∙ row_more fed row entries streams values good stand;
    moved = λ fed old new same stand. any_order order is_order grouping old new same ∙ stand;
    combined = λ fed some others stand. parts some others ∙ stand;
  }
