-- What an input says: the rows of its declared columns, and where it is refused, if it is.
-- Lists run in the order of the input. The first record, number 0, is the header.
use Rattle.std.specs.Prelude.{◌==◌, ◌+◌, if◌then◌else◌, ℕ, List, [], ◌∷◌, ◌++◌, Option, Some, None, Result, Ok, Err, flat_map, length, slice_index_or, count_by, position, nat_le, bytes_eq, option_map}
use Rattle.csv.specs.Reading.{default_config, records, strip_bom}
use Rattle.row_codec.specs.declared.values.Column.{Column}
use Rattle.row_codec.specs.declared.values.Kind.{Kind}
use Rattle.row_codec.specs.declared.values.Kind.TheVariants as kind
use Rattle.row_codec.specs.declared.values.Value.{Value}
use Rattle.row_codec.specs.declared.values.Value.TheVariants as value
use Rattle.csv_edge.specs.declared.header.Placed.{Placed}
use Rattle.csv_edge.specs.declared.refusal.InputErr.{InputErr}
use Rattle.csv_edge.specs.declared.refusal.InputErr.TheVariants as why
use Rattle.csv_edge.specs.Ints.{int_of}
use Rattle.csv_edge.specs.Pieces.{pieces_of}

-- the rows before the reading of an input ends, and why it ends there, if it isn't the input's end
pub record Typed : Type 0 where
  pub rows : List (List Value)
  pub refusal : Option InputErr

-- nothing more, and no refusal
abbrev pub nothing_more : Typed
nothing_more = record { rows = []; refusal = None }

-- a refusal with no row before it
abbrev pub refused_here : InputErr → Typed
refused_here cause = record { rows = []; refusal = Some cause }

-- a row, and then what follows it
abbrev pub row_then : List Value → Typed → Typed
row_then row typed = record { rows = row ∷ typed.rows; refusal = typed.refusal }

-- these rows in turn, and then what follows them
abbrev pub rows_then : List (List Value) → Typed → Typed
rows_then rows typed = record { rows = rows ++ typed.rows; refusal = typed.refusal }

-- the records of a piece: those that `csv` reads from it with its default settings
abbrev pub records_in : List ℕ → List (List (List ℕ))
records_in piece = records default_config (strip_bom piece)

-- the records of an input: those of its pieces, one after the other
abbrev pub records_of : List ℕ → List (List (List ℕ))
records_of bytes = flat_map records_in (pieces_of bytes)

-- the place of a name that stands in the header exactly once
abbrev pub only_place : List (List ℕ) → List ℕ → Option ℕ
only_place header name = if count_by (bytes_eq name) header == 1 then position (bytes_eq name) header else None

-- a column of this kind at a place, and then the others, if all places are known
abbrev pub placed_then : Kind → Option ℕ → Option (List Placed) → Option (List Placed)
placed_then kind None others = None
placed_then kind (Some place) None = None
placed_then kind (Some place) (Some others) = Some (record { place = place; kind = kind } ∷ others)

-- the declared columns and their places, if each of their names stands in the header exactly once
abbrev pub places_of : List (List ℕ) → List Column → Option (List Placed)
places_of header [] = Some []
places_of header (column ∷ rest) = placed_then column.kind (only_place header column.name) (places_of header rest)

-- the value that a field spells in a column of this kind, if it spells one
abbrev pub value_of : Kind → List ℕ → Option Value
value_of kind.Int field = option_map value.Int (int_of field)
value_of kind.Text field = Some (value.Text field)
value_of kind.Wide field = None

-- the value of the column with this number and then the others, or the first column that has none
abbrev pub value_then : ℕ → Option Value → Result (List Value) ℕ → Result (List Value) ℕ
value_then number None others = Err number
value_then number (Some first) (Ok others) = Ok (first ∷ others)
value_then number (Some first) (Err later) = Err later

-- the row of a record's fields, or the first column whose field spells no value; the columns are numbered from here on
abbrev pub row_from : ℕ → List Placed → List (List ℕ) → Result (List Value) ℕ
row_from number [] fields = Ok []
row_from number (column ∷ rest) fields = value_then number (value_of column.kind (slice_index_or fields column.place [])) (row_from (number + 1) rest fields)

-- the row of the record with this number and then what follows, or a refusal of that record
abbrev pub row_or_refusal : ℕ → Result (List Value) ℕ → Typed → Typed
row_or_refusal number (Ok row) more = row_then row more
row_or_refusal number (Err column) more = refused_here (why.Field number column)

-- the rows of the records from this number on: first comes a record of another width, then one too many, then a field
abbrev pub rows_under : ℕ → List Placed → ℕ → ℕ → List (List (List ℕ)) → Typed
rows_under width columns most number [] = nothing_more
rows_under width columns most number (first ∷ rest) =
    if length first == width then
    if nat_le most number then refused_here why.TooLarge else row_or_refusal number (row_from 0 columns first) (rows_under width columns most (number + 1) rest)
    else refused_here (why.Csv number)

-- the same, if the places of the declared columns are known
abbrev pub rows_if_placed : ℕ → Option (List Placed) → ℕ → List (List (List ℕ)) → Typed
rows_if_placed width None most rest = refused_here why.Header
rows_if_placed width (Some columns) most rest = rows_under width columns most 1 rest

-- the rows of these records, the header first
abbrev pub rows_of : List Column → ℕ → List (List (List ℕ)) → Typed
rows_of columns most [] = refused_here why.Header
rows_of columns most (header ∷ rest) = if most == 0 then refused_here why.TooLarge else rows_if_placed (length header) (places_of header columns) most rest

-- the typed rows of an input of which so many records are allowed, the header among them
abbrev pub typed_rows : List Column → ℕ → List ℕ → Typed
typed_rows columns most bytes = rows_of columns most (records_of bytes)
