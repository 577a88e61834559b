-- Encoded rows, read where they stand. Columns count from 0.
use Rattle.std.specs.Prelude.{◌≡◌, ◌≢◌, ℕ, List, [], slice_get, Option, Some, None}
use Rattle.row_codec.specs.declared.values.Kind.{Kind}
use Rattle.row_codec.specs.declared.values.Kind.TheVariants.{Wide}
use Rattle.row_codec.specs.declared.values.Value.{Value}
use Rattle.row_codec.specs.Row.{kinds_of}
use Rattle.row_codec.specs.RowBytes.{row_bytes}
use Rattle.row_codec.specs.RowLaws.{IsRow}
use Rattle.row_codec.specs.RowReading.{row_at}

-- the values that were read, or none
abbrev pub values_read : Option (List Value × ℕ) → List Value
values_read None = []
values_read (Some (row, len)) = row

-- the values that bytes spell
unfoldable pub values_at : List Kind → List ℕ → List Value
values_at kinds bytes = values_read (row_at kinds bytes)

-- the bytes are a row of these kinds
pub record IsRowOf (kinds : List Kind) (bytes : List ℕ) : Type 0 where
  pub is_row : IsRow (values_at kinds bytes)
  pub kinds_are : kinds_of (values_at kinds bytes) ≡ kinds
  pub spelled : row_bytes (values_at kinds bytes) ≡ bytes

-- the column is there, and may be part of a key
abbrev pub IsKeyColumn : List Kind → ℕ → Type 0
IsKeyColumn kinds column = (kind : Kind) × (slice_get kinds column ≡ Some kind) × (kind ≢ Wide)
