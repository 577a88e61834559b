-- What bytes say that are read as a row, from the front.
use Rattle.std.specs.Prelude.{ℕ, ◌+◌, ◌*◌, List, [], ◌∷◌, length, take, drop, fold, nat_le, if◌then◌else◌, Option, Some, None, option_map, option_and_then}
use Rattle.std.specs.Int.{w64, w128, cast_signed}
use Rattle.row_codec.specs.declared.values.Kind.{Kind}
use Rattle.row_codec.specs.declared.values.Kind.TheVariants.{Int, Text, Wide}
use Rattle.row_codec.specs.declared.values.Value.{Value}
use Rattle.row_codec.specs.declared.values.Value.TheVariants as value

-- the number in these bytes: each counts 256 times what the next one does
abbrev pub number_in : List ℕ → ℕ
number_in bytes = fold (λ number byte. number * 256 + byte) 0 bytes

-- so many bytes, and those behind them
abbrev pub front : ℕ → List ℕ → Option (List ℕ × List ℕ)
front count bytes =
    if nat_le count (length bytes) then Some (take count bytes, drop count bytes) else None

-- as many bytes as the first four say, and those behind them
abbrev pub framed_at : List ℕ → Option (List ℕ × List ℕ)
framed_at bytes = option_and_then (λ (head, rest). front (number_in head) rest) (front 4 bytes)

-- a field of this kind, and the bytes behind it
abbrev pub field_at : Kind → List ℕ → Option (Value × List ℕ)
field_at Int bytes =
    option_map (λ (head, rest). (value.Int (cast_signed w64 (number_in head)), rest)) (front 8 bytes)
field_at Text bytes = option_map (λ (text, rest). (value.Text text, rest)) (framed_at bytes)
field_at Wide bytes =
    option_map (λ (head, rest). (value.Wide (cast_signed w128 (number_in head)), rest)) (front 16 bytes)

-- fields of these kinds, where they are all the bytes
abbrev pub fields_in : List Kind → List ℕ → Option (List Value)
fields_in [] [] = Some []
fields_in [] (byte ∷ bytes) = None
fields_in (kind ∷ kinds) bytes =
    option_and_then (λ (field, rest). option_map (λ fields. field ∷ fields) (fields_in kinds rest))
    (field_at kind bytes)

-- a row of these kinds, and how many bytes it takes; a row has a field
unfoldable pub row_at : List Kind → List ℕ → Option (List Value × ℕ)
row_at [] bytes = None
row_at (kind ∷ kinds) bytes =
    option_and_then (λ (body, rest). option_map (λ row. (row, 4 + length body)) (fields_in (kind ∷ kinds) body))
    (framed_at bytes)
