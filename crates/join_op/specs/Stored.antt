-- Rows of one side as they are stored: encoded as they were fed.
use Rattle.std.specs.Prelude.{ℕ, ◌+◌, ◌-◌, ◌==◌, List, filter, map}
use Rattle.row_codec.specs.declared.values.Kind.{Kind}
use Rattle.row_codec.specs.declared.values.Value.{Value}
use Rattle.row_codec.specs.Order.{hash_of, nibble_of}
use Rattle.row_codec.specs.RowBytes.{key_bytes}
use Rattle.row_reading.specs.Reading.{values_at}
use Rattle.store_api.specs.declared.shapes.JoinShape.{JoinShape}

-- the kinds of a side's columns, and those of its columns that are to be equal
pub record Side : Type 0 where
  pub kinds : List Kind
  pub columns : List ℕ

abbrev pub left_side : JoinShape → Side
left_side shape = record { kinds = shape.left; columns = map (λ pair. pair.0) shape.on }

abbrev pub right_side : JoinShape → Side
right_side shape = record { kinds = shape.right; columns = map (λ pair. pair.1) shape.on }

-- the key of the row that bytes spell
abbrev pub key_at : Side → List ℕ → List ℕ
key_at side bytes = key_bytes side.columns (values_at side.kinds bytes)

-- where a row goes at a level, of sixteen partitions of which the lowest stands at `base`: nibble 0 is the highest
abbrev pub place_of : Side → ℕ → ℕ → List ℕ → ℕ
place_of side level base row = base + (15 - nibble_of (hash_of (key_at side row)) level)

-- of some rows, those that go to this partition
abbrev pub dealt : Side → ℕ → ℕ → List (List ℕ) → ℕ → List (List ℕ)
dealt side level base rows i = filter (λ row. place_of side level base row == i) rows

-- what some stored rows say
abbrev pub rows_in : Side → List (List ℕ) → List (List Value)
rows_in side rows = map (values_at side.kinds) rows
