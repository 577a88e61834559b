-- A table in the order of its keys, of which it may be enough to keep the first entries.
use Rattle.std.specs.Prelude.{◌≡◌, ℕ, List, [], ◌∷◌, ◌++◌, take}
use Rattle.std.specs.Ordering.{match_ordering}
use Rattle.row_codec.specs.declared.values.Value.{Value}
use Rattle.group_rows.specs.Keyed.{IsExactOrder, KeyOrder}
use Rattle.group_rows.specs.Kept.{AreOrdered}
use Rattle.group_rows.specs.Partials.{Grouping, Partial, combine, combined_by, groups_by}
use Rattle.group_rows.specs.Standing.{StandFor}

-- a partial row put at its place: into the entry of its key, or between the lower and the higher ones
abbrev pub put : KeyOrder → Grouping → Partial → List Partial → List Partial
put order grouping p [] = p ∷ []
put order grouping p (x ∷ xs) = match_ordering (order p.key x.key) (p ∷ x ∷ xs) (combine grouping x p ∷ xs) (x ∷ put order grouping p xs)

-- one more partial row is combined into a table in order by putting it at its place
abbrev pub PutsInOrder : Type 0
PutsInOrder =
    (order : KeyOrder) → IsExactOrder order → (grouping : Grouping) (entries : List Partial) (p : Partial) → AreOrdered order entries
    → combined_by order grouping (entries ++ p ∷ []) ≡ put order grouping p entries

-- to keep the first so many, only the first so many before are needed
abbrev pub FirstSuffice : Type 0
FirstSuffice =
    (order : KeyOrder) → IsExactOrder order → (grouping : Grouping) (count : ℕ) (partials : List Partial) (p : Partial)
    → take count (combined_by order grouping (partials ++ p ∷ []))
    ≡ take count (put order grouping p (take count (combined_by order grouping partials)))

-- entries in order that stand for some rows are the groups of these rows
abbrev pub OrderedAreGroups : Type 0
OrderedAreGroups =
    (order : KeyOrder) → IsExactOrder order → (grouping : Grouping) (fed : List (List Value)) (entries : List Partial) → AreOrdered order entries
    → StandFor order grouping fed entries → entries ≡ groups_by order grouping fed
