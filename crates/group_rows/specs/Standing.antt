-- Partial rows in a table and in streams that stand for the rows that were fed.
use Rattle.std.specs.Prelude.{◌≡◌, ℕ, List, [], ◌∷◌, ◌++◌, All, set, slice_get, Some}
use Rattle.std.specs.List.Sorted.{IsPermutation}
use Rattle.row_codec.specs.declared.values.Value.{Value}
use Rattle.row_codec.specs.Row.{IsValue}
use Rattle.row_codec.specs.RowBytes.{key_bytes}
use Rattle.group_rows.specs.Combining.{AreValues}
use Rattle.group_rows.specs.Keyed.{IsExactOrder, KeyOrder}
use Rattle.group_rows.specs.Partials.{Grouping, Partial, combine, combined_by, groups_by, partial_of}

-- combined, the partial rows are the groups of these rows
abbrev pub StandFor : KeyOrder → Grouping → List (List Value) → List Partial → Type 0
StandFor order grouping fed partials = combined_by order grouping partials ≡ groups_by order grouping fed

-- each step of an operator keeps that: it begins with nothing; a row goes into the entry of its key, or
-- becomes the last entry; partial rows are moved about; and some of them are combined
pub record KeepsStanding (order : KeyOrder) (grouping : Grouping) : Type 0 where
  pub none : StandFor order grouping [] []
  pub into_entry : (fed : List (List Value)) (row : List Value) (entries streams : List Partial) (at : ℕ) (entry : Partial) → AreValues fed → All IsValue row
      → slice_get entries at ≡ Some entry → entry.key ≡ key_bytes grouping.keys row
      → StandFor order grouping fed (entries ++ streams)
      → StandFor order grouping (fed ++ row ∷ []) (set entries at (combine grouping entry (partial_of grouping row)) ++ streams)
  pub behind : (fed : List (List Value)) (row : List Value) (entries streams : List Partial) → AreValues fed → All IsValue row
      → StandFor order grouping fed (entries ++ streams)
      → StandFor order grouping (fed ++ row ∷ []) ((entries ++ partial_of grouping row ∷ []) ++ streams)
  pub moved : (fed : List (List Value)) (old new : List Partial) → IsPermutation old new
      → StandFor order grouping fed old → StandFor order grouping fed new
  pub combined : (fed : List (List Value)) (some others : List Partial)
      → StandFor order grouping fed (some ++ others) → StandFor order grouping fed (combined_by order grouping some ++ others)

-- every grouping and every exact order have these steps
abbrev pub StandThroughout : Type 0
StandThroughout = (order : KeyOrder) → IsExactOrder order → (grouping : Grouping) → KeepsStanding order grouping
