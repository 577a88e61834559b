-- The maps of what a slab of rows holds. About private fields.
use Rattle.std.specs.Prelude.{ℕ, ◌+◌, List, [], ◌∷◌, Option, Some, None}
use Rattle.std.specs.Ordering.{nat_cmp}
use Rattle.std.specs.FinMap.{FinMap, empty, insert}
use Rattle.slab.specs.Slab.{Slab}
use Rattle.page_table.specs.declared.row.Row.{Row}

module _ {E : Type 0} where
  -- the name of each row by its key, where the first slot has this key
  abbrev pub names_from : ℕ → List (Option (Row E)) → FinMap nat_cmp ℕ
  names_from key [] = empty
  names_from key (None ∷ rest) = names_from (key + 1) rest
  names_from key (Some row ∷ rest) = insert (names_from (key + 1) rest) key row.name

  unfoldable pub names_in : Slab (Row E) → FinMap nat_cmp ℕ
  names_in s = names_from 0 s.slots

  -- the entry of each row by its name
  abbrev pub entries_from : List (Option (Row E)) → FinMap nat_cmp E
  entries_from [] = empty
  entries_from (None ∷ rest) = entries_from rest
  entries_from (Some row ∷ rest) = insert (entries_from rest) row.name row.entry

  unfoldable pub entries_in : Slab (Row E) → FinMap nat_cmp E
  entries_in s = entries_from s.slots
