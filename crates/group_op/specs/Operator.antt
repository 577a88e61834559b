-- A grouping over a store: what it has, and what it keeps of the rows that were fed. Lengths are in bytes.
use Rattle.std.specs.Prelude.{◌≡◌, ℕ, ◌+◌, ◌*◌, ◌≤◌, List, [], ◌++◌, All, length, replicate, sum_by, Option, Some, None}
use Rattle.std.specs.List.{concat}
use Rattle.pool_model.specs.declared.entry.Entry.{Entry}
use Rattle.row_codec.specs.declared.values.Value.{Value}
use Rattle.row_codec.specs.Order.{path_order}
use Rattle.row_codec.specs.RowBytes.{row_bytes}
use Rattle.row_codec.specs.Row.{kinds_of}
use Rattle.store_api.specs.declared.shapes.Shape.{Shape}
use Rattle.store_api.specs.Conditions.{IsBlockCount, IsLiveClient}
use Rattle.store_api.specs.Holdings.{Holdings, account_of, length_of, unused_of}
use Rattle.store_api.specs.Shapes.{IsShape}
use Rattle.store_api.specs.Signs.{Signs}
use Rattle.store_api.specs.Tokens.{ClientToken}
use Rattle.tuple_stream.specs.Trails.{EnteredEvents}
use Rattle.tuple_stream.specs.Families.{ShowAll}
use Rattle.tuple_stream.specs.FamilyCalls.{AllAtEnd, AllWhole, HaveLaid, shares}
use Rattle.group_rows.specs.Combining.{AreValues}
use Rattle.group_rows.specs.Standing.{StandFor}
use Rattle.group_rows.specs.Tables.{HaveDistinctKeys}
use Rattle.bucket_table.specs.Tables.{Table}
use Rattle.partition_stack.specs.Stack.{Stack, first_sixteen, over}
use Rattle.partition_stack.specs.Changes.{Owns}
pub use Rattle.partition_stack.specs.Leaving.{HasNoLoan}
use Rattle.partition_stack.specs.Slots.{most_pages}
use Rattle.group_op.specs.Held.{AreEntries, IsHeld, rows_of, state}
use Rattle.group_op.specs.Stored.{IsPartialRow, grouping_of, keys_len, partials_at, place_of}

-- its client, the shape of its rows, its partitions, and its table once it has one
pub record Operator : Type 0 where
  pub client : ClientToken
  pub shape : Shape
  pub parts : Stack
  pub table : Option Table

abbrev pub operator : ClientToken → Shape → Stack → Option Table → Operator
operator c shape parts table = record { client = c; shape = shape; parts = parts; table = table }

-- a grouping of which nothing was called yet
abbrev pub started : ClientToken → ℕ → Shape → Operator
started c blocks shape = operator c shape (first_sixteen blocks) None

-- the length of its pages
abbrev pub page_of : Operator → Holdings → ℕ
page_of op h = length_of op.parts.page_blocks h

-- its client has its table and its partitions and nothing else; before there is a table, nothing is charged
abbrev pub HasTable : ClientToken → Shape → Stack → Option Table → Holdings → Signs → Type 0
HasTable c shape parts None h signs = Owns c.tracker 0 (over parts h signs) × HasNoLoan c.tracker h × (unused_of c.tracker h ≡ (account_of c.tracker h).reservation)
HasTable c shape parts (Some table) h signs = IsHeld c.tracker (state table parts h signs) × AreEntries shape (length_of parts.page_blocks h) table

-- the grouping is one over this store, with twenty pages reserved
pub record IsOperator (op : Operator) (h : Holdings) (signs : Signs) : Type 0 where
  pub shape : IsShape op.shape
  pub sized : IsBlockCount op.parts.page_blocks
  pub client : IsLiveClient op.client h
  pub least : 20 * page_of op h ≤ (account_of op.client.tracker h).reservation
  pub has : HasTable op.client op.shape op.parts op.table h signs

-- a row that may be fed: of the shape's kinds, with room in a page for itself and sixteen bytes an aggregate
pub record MayBeFed (op : Operator) (h : Holdings) (row : List Value) : Type 0 where
  pub kinds : kinds_of row ≡ op.shape.kinds
  pub short : length (row_bytes row) + 16 * length op.shape.aggs ≤ page_of op h

-- the bytes of rows, with sixteen more for each aggregate: their partial rows have no more
abbrev pub bytes_for : Shape → List (List Value) → ℕ
bytes_for shape rows = sum_by (λ row. length (row_bytes row) + 16 * length shape.aggs) rows

-- the rows of its table
abbrev pub entries_in : Option Table → List (List ℕ)
entries_in None = []
entries_in (Some table) = rows_of table

-- what it holds of the rows that were fed: partial rows in its table and in sixteen partitions, each in the one of its path's
-- first nibble. Combined, they are the groups of these rows. What else stands in the store's trail is left open
pub record Holds (fed : List (List Value)) (op : Operator) (h : Holdings) (signs : Signs) : Type 0 where
  pub rows : ℕ → List (List ℕ)
  pub shows : ShowAll rows (over op.parts h signs)
  pub formed : (i : ℕ) → All (IsPartialRow op.shape) (rows i)
  pub placed : (i : ℕ) → All (λ row. place_of op.shape 0 0 row ≡ i) (rows i)
  pub values : AreValues fed
  pub stand : StandFor path_order (grouping_of op.shape) fed (partials_at op.shape (entries_in op.table) ++ partials_at op.shape (shares 16 rows))
  pub distinct : HaveDistinctKeys (partials_at op.shape (entries_in op.table))
  pub fresh : op.table ≡ None → fed ≡ []
  pub few : length (entries_in op.table) + length (shares 16 rows) ≤ length fed
  pub light : length (concat (entries_in op.table)) + length (concat (shares 16 rows)) ≤ bytes_for op.shape fed
  -- where the partial rows of all keys, with four bytes more each, fit in two pages, none has gone to the partitions
  pub small : keys_len op.shape fed ≤ 2 * page_of op h → shares 16 rows ≡ []
  -- in each partition the page to which rows come is pinned, and nothing is spent
  pub at_end : AllAtEnd (over op.parts h signs)
  pub whole : AllWhole (over op.parts h signs)

-- and all pages that rest were left once since its store's trail stood at `start`, by entries that end no page and pin none
-- again
pub record Keeps (start : Option (List Entry)) (fed : List (List Value)) (op : Operator) (h : Holdings) (signs : Signs) : Type 0 where
  pub holds : Holds fed op h signs
  pub laid : EnteredEvents (HaveLaid (over op.parts h signs)) start signs.trail

-- sixteen partitions of the first level, as long as rows are fed
pub record IsFeeding (op : Operator) : Type 0 where
  pub sixteen : length op.parts.streams ≡ 16
  pub first : op.parts.levels ≡ replicate 16 1

-- the grouping is the same one, with as many partitions of the same levels
pub record IsSame (old new : Operator) : Type 0 where
  pub client : new.client ≡ old.client
  pub shape : new.shape ≡ old.shape
  pub blocks : new.parts.page_blocks ≡ old.parts.page_blocks
  pub levels : new.parts.levels ≡ old.parts.levels
  pub many : length new.parts.streams ≡ length old.parts.streams

-- the slots that its pages and one more have at most, where it was fed these rows: by their bytes, so many pages more for partitions
-- that are not full
abbrev pub slots_for : ℕ → Operator → Holdings → List (List Value) → ℕ
slots_for more op h rows = (most_pages (page_of op h) more (length rows) (bytes_for op.shape rows) + 1) * op.parts.page_blocks
