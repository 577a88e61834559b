-- A row is fed to a grouping: one of values, or a partial row. Lengths are in bytes.
use Rattle.std.specs.Prelude.{◌≡◌, ℕ, ◌≤◌, List, [], ◌∷◌, length, Option}
use Rattle.row_codec.specs.declared.values.Value.{Value}
use Rattle.row_codec.specs.Order.{path_order}
use Rattle.row_codec.specs.Row.{kinds_of}
use Rattle.row_codec.specs.RowBytes.{row_bytes}
use Rattle.store_api.specs.declared.shapes.Shape.{Shape}
use Rattle.store_api.specs.Holdings.{Holdings}
use Rattle.bucket_table.specs.Tables.{Table}
use Rattle.group_rows.specs.Combining.{AreValues}
use Rattle.group_rows.specs.Partials.{Partial}
use Rattle.group_rows.specs.Rows.{partial_in}
use Rattle.group_rows.specs.Standing.{StandFor}
use Rattle.group_op.specs.Held.{AreEntries, State, page_len, rows_of, streams_of}
use Rattle.group_op.specs.Operator.{Operator, bytes_for, entries_in, page_of}
use Rattle.group_op.specs.Putting.{Deals}
use Rattle.group_op.specs.Stored.{IsPartialRow, grouping_of, partial_at, partial_kinds}

-- a partial row of so many bytes stands for these rows, whose own partial rows may have as many bytes together
pub record StandsFor (shape : Shape) (rows : List (List Value)) (p : Partial) (bytes : ℕ) : Type 0 where
  pub values : AreValues rows
  pub stands : StandFor path_order (grouping_of shape) rows (p ∷ [])
  pub light : bytes ≤ bytes_for shape rows

-- the partial row that these bytes spell stands for these rows
abbrev pub Spells : Shape → List ℕ → List (List Value) → Type 0
Spells shape bytes rows = StandsFor shape rows (partial_at shape bytes) (length bytes)

-- so does a partial row as a row of values
abbrev pub IsPartOf : Shape → List Value → List (List Value) → Type 0
IsPartOf shape row rows = StandsFor shape rows (partial_in (grouping_of shape) row) (length (row_bytes row))

-- a partial row that may be fed: of the kinds of the shape's partial rows, with room in a page
pub record MayBeTaken (op : Operator) (h : Holdings) (row : List Value) : Type 0 where
  pub kinds : kinds_of row ≡ partial_kinds op.shape
  pub short : length (row_bytes row) ≤ page_of op h

-- bytes are a partial row that fits in so many
pub record IsSpelled (shape : Shape) (len : ℕ) (bytes : List ℕ) : Type 0 where
  pub row : IsPartialRow shape bytes
  pub short : length bytes ≤ len

-- the table is the one that was there, or a new one without rows. `a` is before the call and `b` behind it
pub record HasOpened (shape : Shape) (was : Option Table) (table : Table) (a b : State) : Type 0 where
  pub rows : rows_of table ≡ entries_in was
  pub entries : AreEntries shape (page_len b) table
  pub deals : Deals (λ i. []) (streams_of a) (streams_of b)
