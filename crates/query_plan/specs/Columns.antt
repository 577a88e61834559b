-- Columns by name, and the row that is grouped.
use Rattle.std.specs.Prelude.{codes, ℕ, ◌+◌, Bool, true, false, List, [], ◌∷◌, ◌++◌, map, if◌then◌else◌, Option, Some, None, bytes_eq}
use Rattle.row_codec.specs.declared.values.Kind.{Kind}
use Rattle.row_codec.specs.declared.values.Kind.TheVariants.{Int, Text, Wide}
use Rattle.row_codec.specs.declared.values.Column.{Column}
use Rattle.query_plan.specs.declared.draft.SideDraft.{SideDraft}

-- the kinds are the same
abbrev pub same_kind : Kind → Kind → Bool
same_kind Int Int = true
same_kind Text Text = true
same_kind Wide Wide = true
same_kind a b = false

-- the column has this name
abbrev pub is_named : List ℕ → Column → Bool
is_named name column = bytes_eq column.name name

-- the first column of this name, where the first column of the list has this place: its place and its kind
abbrev pub named_from : List ℕ → ℕ → List Column → Option (ℕ × Kind)
named_from name place [] = None
named_from name place (column ∷ columns) =
    if is_named name column then Some (place, column.kind) else named_from name (place + 1) columns

-- the first column of this name: its place from 0, and its kind
unfoldable pub named : List ℕ → List Column → Option (ℕ × Kind)
named name columns = named_from name 0 columns

-- the place that was found
abbrev pub place_of : Option (ℕ × Kind) → ℕ
place_of None = 0
place_of (Some found) = found.0

-- the place of the column of this name
abbrev pub place_named : List ℕ → List Column → ℕ
place_named name columns = place_of (named name columns)

-- the columns of a side in a joined row, whose names begin with the side's
-- a column whose name has this in front
abbrev pub with_front : List ℕ → Column → Column
with_front front column = record { name = front ++ column.name; kind = column.kind }

abbrev pub behind : List ℕ → List Column → List Column
behind front columns = map (with_front front) columns

-- the columns of the row that is grouped: where the query joins, the left ones and then the right ones
abbrev pub row_columns : SideDraft → Option SideDraft → List Column
row_columns left None = left.columns
row_columns left (Some right) = behind (codes "left.") left.columns ++ behind (codes "right.") right.columns

-- the columns of the right side
abbrev pub right_columns : Option SideDraft → List Column
right_columns None = []
right_columns (Some side) = side.columns
