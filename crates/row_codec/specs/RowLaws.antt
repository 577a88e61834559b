-- That spelling and reading fit each other.
use Rattle.std.specs.Prelude.{◌≡◌, ℕ, ◌<◌, ◌^◌, List, ◌++◌, length, flat_map, All, Some}
use Rattle.row_codec.specs.declared.values.Kind.{Kind}
use Rattle.row_codec.specs.declared.values.Value.{Value}
use Rattle.row_codec.specs.Row.{kinds_of, IsValue}
use Rattle.row_codec.specs.RowBytes.{field_bytes, row_bytes}
use Rattle.row_codec.specs.RowReading.{row_at}

-- a row that can be spelled: four bytes hold the number of its fields' bytes
pub record IsRow (row : List Value) : Type 0 where
  pub some : 0 < length row
  pub values : All IsValue row
  pub fits : length (flat_map field_bytes row) < 2 ^ 32

-- the bytes begin with a row of these kinds
pub record Begins (kinds : List Kind) (row : List Value) (bytes : List ℕ) : Type 0 where
  pub is_row : IsRow row
  pub kinds_are : kinds_of row ≡ kinds
  pub behind : List ℕ
  pub bytes_are : row_bytes row ++ behind ≡ bytes

-- the bytes begin with no row of these kinds
abbrev pub NoneBegins : List Kind → List ℕ → Type 0
NoneBegins kinds bytes = (row : List Value) → Begins kinds row bytes → ⊥

-- what is read where a row is spelled is that row, whatever follows
abbrev pub RowBack : Type 0
RowBack =
    (row : List Value) (behind : List ℕ) → IsRow row
    → row_at (kinds_of row) (row_bytes row ++ behind) ≡ Some (row, length (row_bytes row))
