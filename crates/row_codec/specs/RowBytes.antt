-- How rows and keys are spelled. A number stands with its most significant byte first, and a
-- signed one in two's complement.
use Rattle.std.specs.Prelude.{ℕ, List, [], ◌∷◌, ◌++◌, length, flat_map, filter_map, slice_get}
use Rattle.std.specs.Int.{w32, w64, w128, to_be_bytes, cast_unsigned}
use Rattle.row_codec.specs.declared.values.Value.{Value}
use Rattle.row_codec.specs.declared.values.Value.TheVariants.{Int, Text, Wide}

-- bytes behind their number
abbrev pub framed : List ℕ → List ℕ
framed bytes = to_be_bytes w32 (length bytes) ++ bytes

-- a field of a row
abbrev pub field_bytes : Value → List ℕ
field_bytes (Int z) = to_be_bytes w64 (cast_unsigned w64 z)
field_bytes (Text text) = framed text
field_bytes (Wide z) = to_be_bytes w128 (cast_unsigned w128 z)

-- a row: its fields behind the number of their bytes
unfoldable pub row_bytes : List Value → List ℕ
row_bytes row = framed (flat_map field_bytes row)

-- the values in these columns, in the order of the columns
abbrev pub values_in : List ℕ → List Value → List Value
values_in columns row = filter_map (slice_get row) columns

-- a value of a key; a wide number is in none
abbrev pub key_part : Value → List ℕ
key_part (Int z) = 1 ∷ to_be_bytes w64 (cast_unsigned w64 z)
key_part (Text text) = 2 ∷ framed text
key_part (Wide z) = []

-- the key of a row in these columns
unfoldable pub key_bytes : List ℕ → List Value → List ℕ
key_bytes columns row = flat_map key_part (values_in columns row)
