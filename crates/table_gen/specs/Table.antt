-- The generated table: a header `k,v`, and then a line for each row, counted from 0.
use Rattle.std.specs.Prelude.{ℕ, ◌+◌, ◌*◌, ◌%◌, List, ◌++◌, flat_map, codes, decimal}
use Rattle.std.specs.List.{range_with_len}

-- the key of a row: each row is seven keys further than the one before, round the groups
abbrev pub key_in_row : ℕ → ℕ → ℕ → ℕ
key_in_row start groups row = (7 * row + start) % groups

-- the line of a key and a number, both in decimal
abbrev pub line_of : ℕ → ℕ → List ℕ
line_of key number = decimal key ++ codes "," ++ decimal number ++ codes "\n"

-- the line of a row: its key, and its number
abbrev pub row_line : ℕ → ℕ → ℕ → List ℕ
row_line start groups row = line_of (key_in_row start groups row) row

-- the lines of so many rows from this one on
unfoldable pub lines_from : ℕ → ℕ → ℕ → ℕ → List ℕ
lines_from start groups row count = flat_map (row_line start groups) (range_with_len row count)

-- the whole table
abbrev pub table_bytes : ℕ → ℕ → ℕ → List ℕ
table_bytes start rows groups = codes "k,v\n" ++ lines_from start groups 0 rows
