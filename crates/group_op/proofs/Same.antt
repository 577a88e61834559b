-- Partial rows that combine to the same, whatever stands beside them.
use Rattle.std.proofs.Common.{◌≡◌, ◌∙◌, ℕ, List, [], ◌∷◌, ◌++◌, set, Some, refl, ap, sym, subst, append_assoc}
use Rattle.std.specs.Prelude.{slice_get}
use Rattle.std.specs.List.Sorted.{IsPermutation}
use Rattle.std.proofs.lemmas.List.Sorted.{IsPermutation-append_comm, IsPermutation-append_left, IsPermutation-to_front}
use Rattle.group_rows.specs.Partials.{Grouping, Partial, combine, combined_of}
use Rattle.group_rows.proofs.Paths.{path_is_order}
use Rattle.group_rows.proofs.Tables.{any_order, into_entry}
use Rattle.row_codec.specs.Order.{path_order}
use Rattle.group_op.specs.Stored.{SameGroups}

module _ (grouping : Grouping) where
  pub same_refl : (xs : List Partial) → SameGroups grouping xs xs
  same_refl xs others = refl

  pub same_trans : (xs ys zs : List Partial) → SameGroups grouping xs ys → SameGroups grouping ys zs → SameGroups grouping xs zs
  same_trans xs ys zs one two others = one others ∙ two others

  pub same_sym : (xs ys : List Partial) → SameGroups grouping xs ys → SameGroups grouping ys xs
  same_sym xs ys one others = sym (one others)

  -- in any order
  pub same_order : (xs ys : List Partial) → IsPermutation xs ys → SameGroups grouping xs ys
  same_order xs ys moved others = sym (any_order path_order path_is_order grouping (xs ++ others) (ys ++ others) (IsPermutation-append_left others xs ys moved))

  -- others behind them
  pub same_front : (xs ys zs : List Partial) → SameGroups grouping xs ys → SameGroups grouping (xs ++ zs) (ys ++ zs)
  same_front xs ys zs one others =
      ap (combined_of grouping) (append_assoc xs zs others) ∙ one (zs ++ others) ∙ ap (combined_of grouping) (sym (append_assoc ys zs others))

  -- others in front of them
  pub same_back : (zs xs ys : List Partial) → SameGroups grouping xs ys → SameGroups grouping (zs ++ xs) (zs ++ ys)
  same_back zs xs ys one =
      same_trans (zs ++ xs) (xs ++ zs) (zs ++ ys) (same_order (zs ++ xs) (xs ++ zs) (IsPermutation-append_comm zs xs))
      (same_trans (xs ++ zs) (ys ++ zs) (zs ++ ys) (same_front xs ys zs one) (same_order (ys ++ zs) (zs ++ ys) (IsPermutation-append_comm ys zs)))

  -- one goes into the entry of its key
  pub same_into : (entries : List Partial) (at : ℕ) (entry p : Partial) → slice_get entries at ≡ Some entry → entry.key ≡ p.key → SameGroups grouping (p ∷ entries) (set entries at (combine grouping entry p))
  same_into entries at entry p there key others =
      any_order path_order path_is_order grouping (entries ++ p ∷ others) (p ∷ entries ++ others) (to_front entries p others)
      ∙ sym (into_entry path_order path_is_order grouping entries others at entry p there key).combined
    where
      to_front : (xs : List Partial) (p : Partial) (ys : List Partial) → IsPermutation (xs ++ p ∷ ys) ((p ∷ xs) ++ ys)
      to_front xs p ys = subst (λ (zs : List Partial). IsPermutation zs ((p ∷ xs) ++ ys)) (append_assoc xs (p ∷ []) ys) (IsPermutation-append_left ys (xs ++ p ∷ []) (p ∷ xs) (IsPermutation-to_front xs p))
