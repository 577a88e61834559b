-- The map of what a slab holds. About private fields.
use Rattle.std.specs.Prelude.{ℕ, ◌+◌, List, [], ◌∷◌, Option, Some, None}
use Rattle.std.specs.Ordering.{nat_cmp}
use Rattle.std.specs.FinMap.{FinMap, empty, insert}
use Rattle.slab.specs.Slab.{Slab}

module _ {X Y : Type 0} (f : X → Y) where
  -- what `f` gives of each value, where the first slot has this key
  abbrev pub table_from : ℕ → List (Option X) → FinMap nat_cmp Y
  table_from key [] = empty
  table_from key (None ∷ rest) = table_from (key + 1) rest
  table_from key (Some x ∷ rest) = insert (table_from (key + 1) rest) key (f x)

  -- what `f` gives of each value of a slab, by its key
  unfoldable pub table : Slab X → FinMap nat_cmp Y
  table s = table_from 0 s.slots
