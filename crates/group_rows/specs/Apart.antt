-- Rows that are grouped apart: some in one place, others in another.
use Rattle.std.specs.Prelude.{◌≡◌, ◌≢◌, ℕ, List, [], ◌∷◌, ◌++◌}
use Rattle.std.specs.List.Sorted.{IsPermutation}
use Rattle.row_codec.specs.declared.values.Value.{Value}
use Rattle.row_codec.specs.RowBytes.{key_bytes}
use Rattle.group_rows.specs.Combining.{AreValues}
use Rattle.group_rows.specs.Keyed.{IsExactOrder, KeyOrder, with_key}
use Rattle.group_rows.specs.Partials.{Grouping, Partial, group_in, groups_by}
use Rattle.group_rows.specs.Standing.{StandFor}

-- partial rows that stand for some rows, and others that stand for other rows, stand together for all of them
abbrev pub StandTogether : Type 0
StandTogether =
    (order : KeyOrder) → IsExactOrder order → (grouping : Grouping) (fed more : List (List Value)) (ps qs : List Partial) → AreValues fed → AreValues more
    → StandFor order grouping fed ps → StandFor order grouping more qs → StandFor order grouping (fed ++ more) (ps ++ qs)

-- the group of a key stands for the rows with this key
abbrev pub StandsForItsRows : Type 0
StandsForItsRows =
    (order : KeyOrder) → IsExactOrder order → (grouping : Grouping) (rows : List (List Value)) (q : List ℕ) → with_key (key_bytes grouping.keys) q rows ≢ []
    → StandFor order grouping (with_key (key_bytes grouping.keys) q rows) (group_in grouping rows q ∷ [])

-- rows have the same groups in any order
abbrev pub RowsInAnyOrder : Type 0
RowsInAnyOrder =
    (order : KeyOrder) → IsExactOrder order → (grouping : Grouping) (xs ys : List (List Value)) → AreValues xs → AreValues ys → IsPermutation xs ys
    → groups_by order grouping ys ≡ groups_by order grouping xs
