-- The fields of an encoded row as bytes, which no values are made of.
use Rattle.std.specs.Prelude.{ℕ, ◌+◌, List, [], ◌∷◌, Option, Some, option_and_then}
use Rattle.row_codec.specs.declared.values.Kind.{Kind}
use Rattle.row_codec.specs.declared.values.Kind.TheVariants.{Int, Text, Wide}
use Rattle.row_codec.specs.RowReading.{front, number_in}

-- the bytes of a field of this kind, and those behind them
abbrev pub cut_at : Kind → List ℕ → Option (List ℕ × List ℕ)
cut_at Int bytes = front 8 bytes
cut_at Text bytes = option_and_then (λ (head, rest). front (4 + number_in head) bytes) (front 4 bytes)
cut_at Wide bytes = front 16 bytes

-- the bytes behind fields of these kinds
abbrev pub behind_fields : List Kind → List ℕ → Option (List ℕ)
behind_fields [] bytes = Some bytes
behind_fields (kind ∷ kinds) bytes = option_and_then (λ (field, rest). behind_fields kinds rest) (cut_at kind bytes)

-- what a field's bytes are in a key
abbrev pub tagged : Kind → List ℕ → List ℕ
tagged Int field = 1 ∷ field
tagged Text field = 2 ∷ field
tagged Wide field = []
