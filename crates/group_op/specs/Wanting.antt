-- How many rows stand in partitions, and the want of slots that may come of them. `a` is before a call and `b` behind it. Lengths
-- are in bytes.
use Rattle.std.specs.Prelude.{ℕ, ◌+◌, ◌*◌, ◌<◌, ◌≤◌, List, ◌++◌, length}
use Rattle.std.specs.List.{concat}
use Rattle.reservation_tree.specs.declared.errors.PoolErr.{PoolErr}
use Rattle.store_api.specs.declared.op_err.OpErr.{OpErr}
use Rattle.tuple_stream.specs.Families.{ShowAll, slots_in}
use Rattle.tuple_stream.specs.FamilyCalls.{AllWhole, AreSure, shares}
use Rattle.partition_stack.specs.Slots.{IsWantBelow, IsWantBelowOf, most_pages}
use Rattle.group_op.specs.Held.{State, page_len, rows_of, streams_of}

-- rows are no more than others, and have no more bytes together
pub record AreNoMore (some most : List (List ℕ)) : Type 0 where
  pub fewer : length some ≤ length most
  pub lighter : length (concat some) ≤ length (concat most)

-- the partitions, at most 272, show rows that are no more than these
pub record ShowNoMore (most : List (List ℕ)) (b : State) : Type 0 where
  pub many : length b.parts.streams ≤ 272
  pub rows : ℕ → List (List ℕ)
  pub shows : ShowAll rows (streams_of b)
  pub no_more : AreNoMore (shares (length b.parts.streams) rows) most

-- the rows of the table, and those of the partitions
abbrev pub rows_with : State → (ℕ → List (List ℕ)) → List (List ℕ)
rows_with a rows = rows_of a.table ++ shares (length a.parts.streams) rows

-- what was whole is so still; and whatever rows stood in the partitions, no more than these and those of the table do
pub record StandNoMore (a b : State) : Type 0 where
  pub whole : AllWhole (streams_of a) → AllWhole (streams_of b)
  pub show : (rows : ℕ → List (List ℕ)) → AreSure (streams_of a) → ShowAll rows (streams_of a) → ShowNoMore (rows_with a rows) b

-- the slots of one page more than these rows have at most
abbrev pub slots_among : ℕ → List (List ℕ) → State → ℕ
slots_among more rows a = (most_pages (page_len a) more (length rows) (length (concat rows)) + 1) * a.parts.page_blocks

-- want of slots comes only where there are fewer than those
abbrev pub IsWantAmong : ℕ → List (List ℕ) → State → PoolErr → Type 0
IsWantAmong more rows a e = 0 < page_len a → IsWantBelow (slots_among more rows a) (slots_in (streams_of a)) e

abbrev pub IsWantAmongOf : ℕ → List (List ℕ) → State → OpErr → Type 0
IsWantAmongOf more rows a e = 0 < page_len a → IsWantBelowOf (slots_among more rows a) (slots_in (streams_of a)) e
