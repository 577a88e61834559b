-- A partial row goes into a table, or those of the table to partitions. `a` is before the call and `b` behind it.
use Rattle.std.specs.Prelude.{◌≡◌, ◌≢◌, ◌⊎◌, ℕ, ◌+◌, ◌*◌, ◌<◌, ◌≤◌, List, [], ◌∷◌, ◌++◌, All, Option, length, reverse, sum_by}
use Rattle.std.specs.List.{concat}
use Rattle.pool_model.specs.declared.entry.Entry.{Entry}
use Rattle.store_api.specs.declared.shapes.Shape.{Shape}
use Rattle.tuple_stream.specs.Families.{Family, ShowAll, pages_in}
use Rattle.tuple_stream.specs.FamilyCalls.{AllAtEnd, AllWhole, AreSure, FeedsAll, HaveLaid, shares}
use Rattle.tuple_stream.specs.Trails.{EnteredEvents, creates_in}
use Rattle.group_rows.specs.Tables.{HaveDistinctKeys}
use Rattle.bucket_table.specs.Tables.{Table, used_by, with_nodes}
use Rattle.partition_stack.specs.Slots.{SameSlots}
use Rattle.partition_stack.specs.Stack.{RestBelow, Stack}
use Rattle.group_op.specs.Held.{AreEntries, IsHeld, Leaves, State, page_len, rows_of, streams_of}
use Rattle.group_op.specs.Stored.{IsPartialRow, SameGroups, dealt, grouping_of, key_at, partials_at}

-- sixteen partitions of a level stand on top, the lowest at `base`; those below `from` rest, and at most one stands between
pub record IsFan (level base from : ℕ) (p : Stack) : Type 0 where
  pub level_is : level < 16
  pub sixteen : length p.streams ≡ base + 16
  pub above : from ≤ base
  pub near : base ≤ from + 1
  pub low : base ≤ 256
  pub rests : RestBelow from p

-- streams have the pages that they had and those that were made
abbrev pub HaveMade : Family → Family → Type 0
HaveMade f g = EnteredEvents (λ events. pages_in g ≡ pages_in f + creates_in events) f.signs.trail g.signs.trail

-- whatever rows stood in the partitions, there are no more pages than these and the rows of the table
abbrev pub HasFew : State → State → Type 0
HasFew a b =
    (rows : ℕ → List (List ℕ)) → AllAtEnd (streams_of a) → ShowAll rows (streams_of a)
    → pages_in (streams_of b) ≤ length (shares (length a.parts.streams) rows) + length (rows_of a.table)

-- no more pages came than the table had rows
abbrev pub FewCame : State → State → Type 0
FewCame a b = pages_in (streams_of b) ≤ pages_in (streams_of a) + length (rows_of a.table)

-- with one row more, no more pages came than rows left the table
abbrev pub AsManyLeft : State → State → Type 0
AsManyLeft a b = pages_in (streams_of b) + length (rows_of b.table) ≤ pages_in (streams_of a) + length (rows_of a.table) + 1

-- whatever the call answers
pub record Works (t : ℕ) (shape : Shape) (a b : State) : Type 0 where
  pub held : IsHeld t b
  pub entries : AreEntries shape (page_len b) b.table
  pub leaves : Leaves t a b
  pub blocks : b.parts.page_blocks ≡ a.parts.page_blocks
  pub levels : b.parts.levels ≡ a.parts.levels
  pub many : length b.parts.streams ≡ length a.parts.streams
  pub slots : SameSlots a.parts.page_blocks (streams_of a) (streams_of b)
  pub made : HaveMade (streams_of a) (streams_of b)
  pub few : HasFew a b

-- no row of the table has this key
abbrev pub Lacks : Shape → List ℕ → Table → Type 0
Lacks shape key table = All (λ n. key_at shape n.row ≢ key) table.nodes

-- rows were dealt to streams, whatever else the store was asked in between
pub record Deals (more : ℕ → List (List ℕ)) (f g : Family) : Type 0 where
  pub told : g.held.told ≡ f.held.told
  pub at_end : AllAtEnd f → AllAtEnd g
  pub whole : AllWhole f → AllWhole g
  pub rows : (rows : ℕ → List (List ℕ)) → AreSure f → ShowAll rows f → ShowAll (λ i. rows i ++ more i) g
  pub laid : (start : Option (List Entry)) → AllAtEnd f → EnteredEvents (HaveLaid f) start f.signs.trail → EnteredEvents (HaveLaid g) start g.signs.trail

-- with four bytes more each, these rows are longer than two pages
abbrev pub AreLong : ℕ → List (List ℕ) → Type 0
AreLong len rows = 2 * len < sum_by (λ r. length r + 4) rows

-- the rows of a table are that long, by themselves or with this one, whose key is a new one
abbrev pub IsTooLong : Shape → ℕ → List ℕ → List (List ℕ) → Type 0
IsTooLong shape len row rows = AreLong len rows ⊎ (AreLong len (row ∷ rows) × All (λ r. key_at shape r ≢ key_at shape row) rows)

-- a table of four pages or more has no room for a row of so many bytes
abbrev pub IsCrowded : ℕ → ℕ → Table → Type 0
IsCrowded len long table = (4 * len ≤ table.room) × (table.room < used_by table.nodes + 4 + long)

-- these rows went to the partitions of a level, and of the others and these the table has what it had and this row
pub record HasPut (shape : Shape) (level base : ℕ) (row : List ℕ) (a b : State) : Type 0 where
  pub gone : List (List ℕ)
  pub formed : All (IsPartialRow shape) gone
  pub deals : Deals (dealt shape level base gone) (streams_of a) (streams_of b)
  pub same : SameGroups (grouping_of shape) (partials_at shape (row ∷ rows_of a.table)) (partials_at shape (rows_of b.table ++ gone))
  pub distinct : HaveDistinctKeys (partials_at shape (rows_of a.table)) → HaveDistinctKeys (partials_at shape (rows_of b.table))
  pub fewer : length (rows_of b.table) + length gone ≤ length (rows_of a.table) + 1
  pub lighter : length (concat (rows_of b.table)) + length (concat gone) ≤ length (concat (rows_of a.table)) + length row
  pub full : (gone ≡ []) ⊎ IsTooLong shape (page_len a) row (rows_of a.table)

-- the table has what it had and this row, and no row went to partitions
pub record HasPutHere (shape : Shape) (row : List ℕ) (a b : State) : Type 0 where
  pub deals : Deals (λ i. []) (streams_of a) (streams_of b)
  pub same : SameGroups (grouping_of shape) (partials_at shape (row ∷ rows_of a.table)) (partials_at shape (rows_of b.table))
  pub distinct : HaveDistinctKeys (partials_at shape (rows_of a.table)) → HaveDistinctKeys (partials_at shape (rows_of b.table))
  pub fewer : length (rows_of b.table) ≤ length (rows_of a.table) + 1
  pub lighter : length (concat (rows_of b.table)) ≤ length (concat (rows_of a.table)) + length row

-- the table got more memory or not, and has the rows that it had
pub record HasGrown (t : ℕ) (shape : Shape) (a b : State) : Type 0 where
  pub rows : rows_of b.table ≡ rows_of a.table
  pub works : Works t shape a b
  pub deals : Deals (λ i. []) (streams_of a) (streams_of b)

-- all rows of the table went to the partitions of a level
pub record HasFlushed (t : ℕ) (shape : Shape) (level base : ℕ) (a b : State) : Type 0 where
  pub table : b.table ≡ with_nodes [] a.table
  pub feeds : FeedsAll t (dealt shape level base (reverse (rows_of a.table))) (streams_of a) (streams_of b)
