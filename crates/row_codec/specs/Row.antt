-- Rows as contracts see them: lists of values, the first column first.
use Rattle.std.specs.Prelude.{◌<◌, List, map, All}
use Rattle.std.specs.Int.{w64, w128}
use Rattle.std.specs.Prelude.{FitsSigned}
use Rattle.row_codec.specs.declared.values.Kind.{Kind}
use Rattle.row_codec.specs.declared.values.Kind.TheVariants as kind
use Rattle.row_codec.specs.declared.values.Value.{Value}
use Rattle.row_codec.specs.declared.values.Value.TheVariants.{Int, Text, Wide}

-- the kind of a value
abbrev pub kind_of : Value → Kind
kind_of (Int z) = kind.Int
kind_of (Text text) = kind.Text
kind_of (Wide z) = kind.Wide

-- the kinds of a row, column by column
abbrev pub kinds_of : List Value → List Kind
kinds_of row = map kind_of row

-- a number is one of its 64 or 128 bits, and a text is of bytes
abbrev pub IsValue : Value → Type 0
IsValue (Int z) = FitsSigned w64 z
IsValue (Text text) = All (λ byte. byte < 256) text
IsValue (Wide z) = FitsSigned w128 z
