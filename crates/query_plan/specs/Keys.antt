-- The table of keys: where each stands, when, of which kind it is, and its limit. Each table of the
-- document is read in the order of its rows here.
use Rattle.std.specs.Prelude.{codes, ℕ, Bool, true, not, ◌==◌, List, [], ◌∷◌, ◌++◌, length, is_some, option_and_then}
use Rattle.toml.specs.Data.{Members, as_str}
use Rattle.query_plan.specs.declared.limit.Limit.TheVariants.{Within, Power, Blocks}
use Rattle.query_plan.specs.declared.known.Where.{Where}
use Rattle.query_plan.specs.declared.known.Where.TheVariants.{Top, Query, Side, Agg, Filter}
use Rattle.query_plan.specs.Words.{cmp_of, agg_of, column_of}
use Rattle.query_plan.specs.Values.{as_scalar, number_at}
use Rattle.query_plan.specs.Faults.{Check, Row, Presence, readable, number, text, list_of, table, table_with}
use Rattle.query_plan.specs.Presences.{needed, optional, exactly_with, only_with, only_with_but, needed_without, exactly_where, takes_column}
use Rattle.query_plan.specs.Drafts.{query_in}
use Rattle.query_plan.specs.Names.{names_fault}

-- ---- tests of texts

-- any text; one that is not empty; one that names an aggregate; one that is the sign of a comparison
abbrev pub any : List ℕ → Bool
any bytes = true

abbrev pub not_empty : List ℕ → Bool
not_empty bytes = not (length bytes == 0)

abbrev pub is_agg : List ℕ → Bool
is_agg bytes = is_some (agg_of bytes)

abbrev pub is_cmp : List ℕ → Bool
is_cmp bytes = is_some (cmp_of bytes)

-- a column, and a value to compare with
abbrev pub column : Check
column = readable (λ value. option_and_then column_of (as_str value))

abbrev pub scalar : Check
scalar = readable as_scalar

-- ---- the rows

-- a row whose limit does not depend on other keys
abbrev pub row : List ℕ → Presence → Check → Row
row key presence check = record { key = key; presence = presence; check = λ _. check }

abbrev pub filter_rows : List Row
filter_rows =
    row (codes "column") needed (text any)
    ∷ row (codes "op") needed (text is_cmp)
    ∷ row (codes "value") needed scalar
    ∷ []

unfoldable pub filter : Check
filter = table filter_rows

abbrev pub agg_rows : List Row
agg_rows =
    row (codes "op") needed (text is_agg)
    ∷ row (codes "column") (exactly_where takes_column) (text any)
    ∷ []

unfoldable pub aggregate : Check
aggregate = table agg_rows

abbrev pub side_rows : List Row
side_rows =
    row (codes "file") needed (text not_empty)
    ∷ row (codes "columns") needed (list_of 1 64 column)
    ∷ row (codes "filter") optional (list_of 0 16 filter)
    ∷ []

unfoldable pub side : Check
side = table side_rows

-- a query: its numbers, its files, and what is made of their rows
abbrev pub number_rows : List Row
number_rows =
    row (codes "page_blocks") needed (number (Power 1 256))
    ∷ row (codes "limit") needed (number (Within 0 9223372036854775807))
    ∷ row (codes "quota") needed (number (Within 0 1048576))
    ∷ []

abbrev pub file_rows : List Row
file_rows =
    row (codes "output") needed (text not_empty)
    ∷ row (codes "left") needed side
    ∷ row (codes "right") optional side
    ∷ []

abbrev pub shape_rows : List Row
shape_rows =
    row (codes "on") (exactly_with (codes "right")) (list_of 1 8 (list_of 2 2 (text any)))
    ∷ row (codes "group") (needed_without (codes "right")) (list_of 1 8 (text any))
    ∷ row (codes "agg") (only_with (codes "group")) (list_of 0 16 aggregate)
    ∷ row (codes "fragments") (only_with_but (codes "group") (codes "right")) (number (Within 1 8))
    ∷ []

abbrev pub query_rows : List Row
query_rows = number_rows ++ (file_rows ++ shape_rows)

-- a query's names are looked at once its keys are read
unfoldable pub query : Check
query = table_with query_rows (λ path entries. names_fault path (query_in entries))

-- the blocks and their length together are limited too
abbrev pub blocks : Members → Check
blocks entries = number (Blocks 1 1048576 (number_at (codes "block_len") entries))

-- a trace: where it goes, and how many entries it has at most
abbrev pub trace_rows : List Row
trace_rows =
    row (codes "trace") optional (text not_empty)
    ∷ row (codes "trace_entries") (exactly_with (codes "trace")) (number (Within 1 1048576))
    ∷ []

-- its queries
abbrev pub queries_row : List Row
queries_row = row (codes "query") needed (list_of 1 16 query) ∷ []

abbrev pub top_rows : List Row
top_rows =
    row (codes "block_len") needed (number (Power 64 65536))
    ∷ record { key = codes "blocks"; presence = needed; check = blocks }
    ∷ row (codes "writers") needed (number (Within 0 8))
    ∷ (trace_rows ++ queries_row)

-- the tables of a document
abbrev pub rows_of : Where → List Row
rows_of Top = top_rows
rows_of Query = query_rows
rows_of Side = side_rows
rows_of Agg = agg_rows
rows_of Filter = filter_rows
