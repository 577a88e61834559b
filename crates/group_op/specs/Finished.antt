-- Sixteen partitions and a table as they are once no row is fed any more. `a` is before a call and `b` behind it.
use Rattle.std.specs.Prelude.{◌≡◌, ℕ, ◌+◌, ◌*◌, ◌≤◌, List, ◌++◌, All, length, true}
use Rattle.store_api.specs.declared.shapes.Shape.{Shape}
use Rattle.tuple_stream.specs.Families.{ShowAll}
use Rattle.tuple_stream.specs.FamilyCalls.{shares}
use Rattle.partition_stack.specs.Making.{owed}
use Rattle.group_rows.specs.Partials.{Partial, combined_of}
use Rattle.group_op.specs.Finishing.{Stacked, said_down}
use Rattle.group_op.specs.Held.{State, rows_of, streams_of}
use Rattle.group_op.specs.Stored.{IsPartialRow, grouping_of, partials_at, place_of}
use Rattle.group_op.specs.Wanting.{AreNoMore}

-- partial rows in sixteen partitions, each in the one of its path's first nibble
pub record ShowsFirst (shape : Shape) (rows : ℕ → List (List ℕ)) (b : State) : Type 0 where
  pub told : b.held.told ≡ true
  pub shows : ShowAll rows (streams_of b)
  pub formed : (i : ℕ) → All (IsPartialRow shape) (rows i)
  pub placed : (i : ℕ) → All (λ row. place_of shape 0 0 row ≡ i) (rows i)

-- the groups of these and of the rows of the table
abbrev pub groups_of_all : Shape → (ℕ → List (List ℕ)) → State → List Partial
groups_of_all shape rows a = combined_of (grouping_of shape) (partials_at shape (rows_of a.table) ++ partials_at shape (shares 16 rows))

-- all rows are in partitions, no more than there were, and nothing is lost
pub record HasSettled (shape : Shape) (rows : ℕ → List (List ℕ)) (a b : State) : Type 0 where
  pub left : ℕ → List (List ℕ)
  pub stacked : Stacked shape left b
  pub same : groups_of_all shape rows a ≡ said_down shape (length b.parts.streams) left
  pub few : owed b.parts.levels left ≤ 15 * (length (rows_of a.table) + length (shares 16 rows))
  pub no_more : AreNoMore (shares (length b.parts.streams) left) (rows_of a.table ++ shares 16 rows)
