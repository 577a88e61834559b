-- A table of partial rows takes one more in. A table is a list of entries, and streams are lists of
-- partial rows beside it.
use Rattle.std.specs.Prelude.{◌≡◌, ℕ, List, [], ◌∷◌, ◌++◌, All, map, set, slice_get, false, Some}
use Rattle.std.specs.List.{IsDistinct}
use Rattle.std.specs.Str.{bytes_eq}
use Rattle.group_rows.specs.Keyed.{IsExactOrder, KeyOrder}
use Rattle.group_rows.specs.Partials.{Grouping, Partial, combine, combined_by, key_of}

-- no two entries have one key
abbrev pub HaveDistinctKeys : List Partial → Type 0
HaveDistinctKeys entries = IsDistinct bytes_eq (map key_of entries)

-- the new entries have one partial row more than the old ones, whatever the streams have
pub record HasTaken (order : KeyOrder) (grouping : Grouping) (old new streams : List Partial) (p : Partial) : Type 0 where
  pub combined : combined_by order grouping (new ++ streams) ≡ combined_by order grouping (old ++ p ∷ streams)
  pub distinct : HaveDistinctKeys old → HaveDistinctKeys new

-- a partial row is combined into the entry of its key
abbrev pub IntoEntry : Type 0
IntoEntry =
    (order : KeyOrder) → IsExactOrder order → (grouping : Grouping) (entries streams : List Partial) (at : ℕ) (entry p : Partial)
    → slice_get entries at ≡ Some entry → entry.key ≡ p.key
    → HasTaken order grouping entries (set entries at (combine grouping entry p)) streams p

-- where no entry has its key, it becomes the last entry
abbrev pub NewEntry : Type 0
NewEntry =
    (order : KeyOrder) → IsExactOrder order → (grouping : Grouping) (entries streams : List Partial) (p : Partial)
    → All (λ entry. bytes_eq p.key entry.key ≡ false) entries
    → HasTaken order grouping entries (entries ++ p ∷ []) streams p
