-- The answer of a query, as computed over the bytes of its inputs: a line of names, and a line for each group or pair.
use Rattle.std.specs.Prelude.{◌≡◌, ◌+◌, codes, ℕ, List, ◌++◌, Option, Some, None, Bool, false, true, map, flat_map, length, ℤ, ⊤}
use Rattle.std.specs.List.{range_with_len}
use Rattle.std.specs.Io.KnownBytes.{Appends}
use Rattle.row_codec.specs.declared.values.Agg.{Agg}
use Rattle.row_codec.specs.declared.values.Agg.TheVariants.{Count, Sum, Min, Max}
use Rattle.row_codec.specs.declared.values.Column.{Column}
use Rattle.row_codec.specs.declared.values.Value.{Value}
use Rattle.row_codec.specs.declared.values.Value.TheVariants.{Text}
use Rattle.row_codec.specs.Order.{path_order}
use Rattle.row_codec.specs.RowBytes.{key_bytes}
use Rattle.csv_edge.specs.Lines.{line_of}
use Rattle.csv_edge.specs.Written.{AppendsFront}
use Rattle.group_rows.specs.Aggregates.{aggregate}
use Rattle.group_rows.specs.Keyed.{keys_in}
use Rattle.group_rows.specs.Partials.{Grouping}
use Rattle.group_rows.specs.Rows.{group_row}
use Rattle.join_op.specs.Pairs.{SameRows}
use Rattle.query_plan.specs.Sizes.{groups}
use Rattle.query_plan.specs.declared.plan.Query.{Query}
use Rattle.query_run.specs.Both.{AreAccepted, Told, answered, right_passing, right_rows}
use Rattle.query_run.specs.Input.{left_rows, passing}
use Rattle.query_run.specs.Plans.{grouping_of, name_at, row_columns}
use Rattle.query_plan.specs.declared.outcome.Ran.{Ran}

-- the name of an aggregate in the first line: `count`, or what is computed and of which column
abbrev pub of_column : List ℕ → List Column → ℕ → List ℕ
of_column op columns place = op ++ codes "(" ++ name_at columns place ++ codes ")"

abbrev pub agg_name : List Column → Agg → List ℕ
agg_name columns Count = codes "count"
agg_name columns (Sum place) = of_column (codes "sum") columns place
agg_name columns (Min place) = of_column (codes "min") columns place
agg_name columns (Max place) = of_column (codes "max") columns place

-- the row of names: where the query groups, those of the columns that are grouped by, and those of the aggregates; else all
abbrev pub header_by : Bool → Query → List Value
header_by true plan = map (λ place. Text (name_at (row_columns plan) place)) plan.group ++ map (λ agg. Text (agg_name (row_columns plan) agg)) plan.aggs
header_by false plan = map (λ column. Text column.name) (row_columns plan)

abbrev pub header_of : Query → List Value
header_of plan = header_by (groups plan) plan

-- the rows of the groups of these rows, one for each distinct key, in the order of the keys' paths
abbrev pub group_rows : Grouping → List (List Value) → List (List Value)
group_rows grouping rows = map (group_row grouping rows) (keys_in path_order (key_bytes grouping.keys) rows)

-- the lines of some rows
abbrev pub lines_of : List (List Value) → List ℕ
lines_of rows = flat_map line_of rows

-- the rows of the answer over these rows: those of their groups, or where the query doesn't group, they themselves in any order
abbrev pub AreLinesBy : Bool → Query → List (List Value) → List (List Value) → Type 0
AreLinesBy true plan rows out = out ≡ group_rows (grouping_of plan) rows
AreLinesBy false plan rows out = SameRows out rows

abbrev pub AreLines : Query → List (List Value) → List (List Value) → Type 0
AreLines plan rows out = AreLinesBy (groups plan) plan rows out

-- the text of an answer with these rows
abbrev pub answer_text : Query → List (List Value) → List ℕ
answer_text plan out = line_of (header_of plan) ++ lines_of out

-- the text is the answer over these bytes, which are accepted to their ends
pub record IsAnswer (plan : Query) (page : ℕ) (told : Told) (text : List ℕ) : Type 0 where
  pub accepted : AreAccepted plan page told
  pub out : List (List Value)
  pub are : AreLines plan (answered plan told) out
  pub is : text ≡ answer_text plan out

-- the whole answer was appended, where the bytes are told
abbrev pub WroteAnswer : Query → ℕ → Option Told → Option (List ℕ) → Option (List ℕ) → Type 0
WroteAnswer plan page None old new = ⊤
WroteAnswer plan page (Some told) old new = (text : List ℕ) × IsAnswer plan page told text × Appends old new text

-- a front of the answer was appended, where the bytes are told
abbrev pub WroteFront : Query → ℕ → Option Told → Option (List ℕ) → Option (List ℕ) → Type 0
WroteFront plan page None old new = ⊤
WroteFront plan page (Some told) old new = (text : List ℕ) × IsAnswer plan page told text × AppendsFront old new text

-- the sum of each aggregate's column over these rows of groups, in 128 bits
abbrev pub totals_of : Grouping → List (List Value) → List ℤ
totals_of grouping groups = map (λ place. aggregate (Sum place) groups) (range_with_len (length grouping.keys) (length grouping.aggs))

-- the numbers of the lines of an answer over these rows
pub record LineNumbers (plan : Query) (rows : List (List Value)) (ran : Ran) : Type 0 where
  pub out : List (List Value)
  pub are : AreLines plan rows out
  pub lines : ran.lines ≡ length out
  pub totals : ran.totals ≡ totals_of (grouping_of plan) out

-- the numbers that go with an answer: those of the rows always, and those of the lines where pins are told
pub record Numbers (plan : Query) (page : ℕ) (tells : Bool) (ran : Ran) (told : Told) : Type 0 where
  pub accepted : AreAccepted plan page told
  pub left : ran.left ≡ length (left_rows plan told.left)
  pub right : ran.right ≡ length (right_rows plan.right told.right)
  pub kept : ran.kept ≡ length (passing plan told.left) + length (right_passing plan.right told.right)
  pub lines : tells ≡ true → LineNumbers plan (answered plan told) ran
