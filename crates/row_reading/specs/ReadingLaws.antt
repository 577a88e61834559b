-- That what is spelled is read back.
use Rattle.std.specs.Prelude.{◌≡◌, List}
use Rattle.row_codec.specs.declared.values.Value.{Value}
use Rattle.row_codec.specs.Row.{kinds_of}
use Rattle.row_codec.specs.RowBytes.{row_bytes}
use Rattle.row_codec.specs.RowLaws.{IsRow}
use Rattle.row_reading.specs.Reading.{IsRowOf, values_at}

-- a row's bytes spell its values
abbrev pub ValuesBack : Type 0
ValuesBack = (row : List Value) → IsRow row → values_at (kinds_of row) (row_bytes row) ≡ row

-- a row's bytes are a row of its kinds
abbrev pub SpelledIsRow : Type 0
SpelledIsRow = (row : List Value) → IsRow row → IsRowOf (kinds_of row) (row_bytes row)
