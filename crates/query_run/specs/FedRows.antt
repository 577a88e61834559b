-- Rows that were fed to an operator, as to what the keys of groups need of them. Lengths are in bytes.
use Rattle.std.specs.Prelude.{◌≡◌, ◌<◌, ◌^◌, List, All, length}
use Rattle.row_codec.specs.declared.values.Kind.{Kind}
use Rattle.row_codec.specs.declared.values.Value.{Value}
use Rattle.row_codec.specs.Row.{kinds_of}
use Rattle.row_codec.specs.RowBytes.{row_bytes}

-- a row of these kinds, whose encoding has a length that fits in four bytes
pub record IsFed (kinds : List Kind) (row : List Value) : Type 0 where
  pub kinds_are : kinds_of row ≡ kinds
  pub short : length (row_bytes row) < 2 ^ 32

abbrev pub AreFed : List Kind → List (List Value) → Type 0
AreFed kinds rows = All (IsFed kinds) rows
