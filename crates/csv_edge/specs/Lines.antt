-- The text of a row.
use Rattle.std.specs.Prelude.{ℕ, List, map}
use Rattle.std.specs.Fmt.{signed_decimal}
use Rattle.csv.specs.Writing.{default_writer, row_text}
use Rattle.row_codec.specs.declared.values.Value.{Value}
use Rattle.row_codec.specs.declared.values.Value.TheVariants.{Int, Text, Wide}

-- the text of a value: a number in decimal, a text as it is
abbrev pub text_of : Value → List ℕ
text_of (Int number) = signed_decimal number
text_of (Text text) = text
text_of (Wide number) = signed_decimal number

-- the line of a row, as `csv` writes it with its default settings
abbrev pub line_of : List Value → List ℕ
line_of row = row_text default_writer (map text_of row)
