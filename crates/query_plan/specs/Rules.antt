-- The rules that a plan keeps.
use Rattle.std.specs.Prelude.{◌≡◌, ◌≢◌, ◌≤◌, ◌<◌, ◌*◌, codes, true, ℕ, List, [], ◌++◌, Option, Some, None, IsNone, IfSome, All, eqb, length, map, option_map, slice_get, sum_by, bytes_eq, ⊤}
use Rattle.std.specs.Int.{is_power_of_two}
use Rattle.std.specs.List.{IsDistinct}
use Rattle.std.specs.Option.{IsSomeAnd}
use Rattle.row_codec.specs.Row.{kind_of}
use Rattle.row_codec.specs.declared.values.Agg.{Agg}
use Rattle.row_codec.specs.declared.values.Agg.TheVariants.{Count, Sum, Min, Max}
use Rattle.row_codec.specs.declared.values.Column.{Column}
use Rattle.row_codec.specs.declared.values.Kind.{Kind}
use Rattle.row_codec.specs.declared.values.Kind.TheVariants as kind
use Rattle.scan_filter.specs.declared.pred.Pred.{Pred}
use Rattle.query_plan.specs.declared.plan.Plan.{Plan}
use Rattle.query_plan.specs.declared.plan.Query.{Query}
use Rattle.query_plan.specs.declared.plan.SidePlan.{SidePlan}
use Rattle.query_plan.specs.Columns.{behind}
use Rattle.query_plan.specs.Sizes.{slots_of}

-- ---- the row that is grouped

-- the columns of a row: those of the left side, or where there is a right one too, of both behind their sides' names
abbrev pub columns_over : List Column → Option (List Column) → List Column
columns_over left None = left
columns_over left (Some right) = behind (codes "left.") left ++ behind (codes "right.") right

-- the columns of a side that may be there
abbrev pub columns_of_side : Option SidePlan → List Column
columns_of_side None = []
columns_of_side (Some side) = side.columns

-- the columns of the row that a query groups
abbrev pub row_columns_of : Query → List Column
row_columns_of query = columns_over query.left.columns (option_map (λ side. side.columns) query.right)

-- their names, and their kinds
abbrev pub row_names : Query → List (List ℕ)
row_names query = map (λ column. column.name) (row_columns_of query)

abbrev pub row_kinds : Query → List Kind
row_kinds query = map (λ column. column.kind) (row_columns_of query)

-- ---- numbers, columns

-- the number is from the first to the second
abbrev pub IsWithin : ℕ → ℕ → ℕ → Type 0
IsWithin low high n = (low ≤ n) × (n ≤ high)

-- and a power of two
abbrev pub IsPowerWithin : ℕ → ℕ → ℕ → Type 0
IsPowerWithin low high n = IsWithin low high n × (is_power_of_two n ≡ true)

-- the column at this place has this kind
abbrev pub HasKind : List Column → ℕ → Kind → Type 0
HasKind columns place k = IsSomeAnd (slice_get columns place) (λ column. column.kind ≡ k)

-- an aggregate other than a count is over ints
abbrev pub IsOverInts : List Column → Agg → Type 0
IsOverInts columns Count = ⊤
IsOverInts columns (Sum place) = HasKind columns place kind.Int
IsOverInts columns (Min place) = HasKind columns place kind.Int
IsOverInts columns (Max place) = HasKind columns place kind.Int

-- the columns of a pair have one kind
abbrev pub IsPair : List Column → List Column → ℕ × ℕ → Type 0
IsPair left right pair = (k : Kind) × HasKind left pair.0 k × HasKind right pair.1 k

-- ---- the rules

-- a side has 1 to 64 columns of ints and texts, each name once, and at most 16 filters, each with a value of its column's kind
pub record KeepsSide (side : SidePlan) : Type 0 where
  pub columns : IsWithin 1 64 (length side.columns)
  pub names : IsDistinct bytes_eq (map (λ column. column.name) side.columns)
  pub kinds : All (λ (column : Column). column.kind ≢ kind.Wide) side.columns
  pub few : length side.preds ≤ 16
  pub preds : All (λ (pred : Pred). HasKind side.columns pred.column (kind_of pred.value)) side.preds

-- a query: its pages, its sides, the pairs of a join, and the groups of its row; aggregates only where it groups, and
-- several fragments only where it groups and doesn't join
pub record KeepsQuery (query : Query) : Type 0 where
  pub page_blocks : IsPowerWithin 1 256 query.page_blocks
  pub left : KeepsSide query.left
  pub right : IfSome query.right KeepsSide
  pub joins : IfSome query.right (λ side. IsWithin 1 8 (length query.on))
  pub pairs : All (IsPair query.left.columns (columns_of_side query.right)) query.on
  pub groups : (length query.group ≤ 8) × (IsNone query.right → 1 ≤ length query.group)
  pub distinct : IsDistinct eqb query.group
  pub inside : All (λ place. place < length (row_columns_of query)) query.group
  pub few : length query.aggs ≤ 16
  pub aggs : All (IsOverInts (row_columns_of query)) query.aggs
  pub none : query.group ≡ [] → query.aggs ≡ []
  pub fragments : IsWithin 1 8 query.fragments
  pub alone : 2 ≤ query.fragments → IsNone query.right × (1 ≤ length query.group)

-- a plan over so many scratch slots: its blocks, their bytes together, its writers, its trace, its queries and the quotas
-- of all their sessions
pub record KeepsRules (slots : ℕ) (plan : Plan) : Type 0 where
  pub block_len : IsPowerWithin 64 65536 plan.block_len
  pub blocks : IsWithin 1 1048576 plan.blocks
  pub memory : plan.blocks * plan.block_len ≤ 2147483648
  pub writers : plan.writers ≤ 8
  pub trace : IfSome plan.trace (λ it. IsWithin 1 1048576 it.entries)
  pub some : IsWithin 1 16 (length plan.queries)
  pub queries : All KeepsQuery plan.queries
  pub quotas : sum_by slots_of plan.queries ≤ slots
