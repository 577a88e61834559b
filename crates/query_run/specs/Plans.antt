-- What a plan asks of a query: which columns it reads, what it groups, and what it computes.
use Rattle.std.specs.Prelude.{◌≡◌, ◌≢◌, ◌⊎◌, codes, ℕ, ◌<◌, ◌≤◌, List, [], ◌++◌, All, IfSome, IsSomeAnd, Option, Some, None, false, true, length, map, slice_get, slice_index_or}
use Rattle.row_codec.specs.declared.values.Column.{Column}
use Rattle.row_codec.specs.declared.values.Kind.{Kind}
use Rattle.row_codec.specs.declared.values.Kind.TheVariants.{Wide}
use Rattle.row_codec.specs.Row.{kind_of}
use Rattle.scan_filter.specs.declared.pred.Pred.{Pred}
use Rattle.store_api.specs.Conditions.{IsBlockCount}
use Rattle.store_api.specs.Shapes.{IsJoinShape, IsShape}
use Rattle.store_api.specs.declared.shapes.JoinShape.{JoinShape}
use Rattle.store_api.specs.declared.shapes.Shape.{Shape}
use Rattle.group_rows.specs.Partials.{Grouping}
use Rattle.query_plan.specs.Columns.{behind}
use Rattle.query_plan.specs.Sizes.{groups, joins}
use Rattle.query_plan.specs.declared.plan.Query.{Query}
use Rattle.query_plan.specs.declared.plan.SidePlan.{SidePlan}

-- the kinds, and the names, of some columns
abbrev pub kinds_of_columns : List Column → List Kind
kinds_of_columns columns = map (λ c. c.kind) columns

abbrev pub name_at : List Column → ℕ → List ℕ
name_at columns place = slice_index_or (map (λ c. c.name) columns) place []

-- the columns of the row that is grouped: where the query joins, the left ones and then the right ones
abbrev pub joined_columns : List Column → Option SidePlan → List Column
joined_columns left None = left
joined_columns left (Some right) = behind (codes "left.") left ++ behind (codes "right.") right.columns

abbrev pub row_columns : Query → List Column
row_columns plan = joined_columns plan.left.columns plan.right

-- the grouping: the kinds of its rows, the columns of its keys, and what is computed over each group
abbrev pub shape_of : Query → Shape
shape_of plan = record { kinds = kinds_of_columns (row_columns plan); keys = plan.group; aggs = plan.aggs }

abbrev pub grouping_of : Query → Grouping
grouping_of plan = record { keys = plan.group; aggs = plan.aggs }

-- the join of the left side with this right one: the kinds of both, and the columns that are to be equal
abbrev pub join_shape_of : Query → SidePlan → JoinShape
join_shape_of plan right = record { left = kinds_of_columns plan.left.columns; right = kinds_of_columns right.columns; on = plan.on }

-- a predicate is about a column that is there, with a value of its kind
abbrev pub IsAbout : List Column → Pred → Type 0
IsAbout columns pred = IsSomeAnd (slice_get columns pred.column) (λ column. kind_of pred.value ≡ column.kind)

-- a side has columns of ints and texts, and predicates about them
pub record IsSide (side : SidePlan) : Type 0 where
  pub some : 0 < length side.columns
  pub few : length side.columns ≤ 64
  pub narrow : All (λ column. column.kind ≢ Wide) side.columns
  pub preds : All (IsAbout side.columns) side.preds

-- the query groups rows: by one column or more, which are distinct, with aggregates over ints
pub record HasGroups (plan : Query) : Type 0 where
  pub paged : IsBlockCount plan.page_blocks
  pub shape : IsShape (shape_of plan)
  pub keys : length plan.group ≤ 8
  pub aggs : length plan.aggs ≤ 16

-- it groups the rows of its left input, and has no other one
pub record IsGrouping (plan : Query) : Type 0 where
  pub paged : IsBlockCount plan.page_blocks
  pub alone : plan.right ≡ None
  pub left : IsSide plan.left
  pub shape : IsShape (shape_of plan)
  pub keys : length plan.group ≤ 8
  pub aggs : length plan.aggs ≤ 16

-- the query groups, joins, or joins and groups, by columns that are there; it computes something only where it groups
pub record IsRunnable (plan : Query) : Type 0 where
  pub paged : IsBlockCount plan.page_blocks
  pub left : IsSide plan.left
  pub right : IfSome plan.right IsSide
  pub join : IfSome plan.right (λ right. IsJoinShape (join_shape_of plan right))
  pub does : (groups plan ≡ true) ⊎ (joins plan ≡ true)
  pub shape : groups plan ≡ true → IsShape (shape_of plan)
  pub keys : length plan.group ≤ 8
  pub aggs : length plan.aggs ≤ 16
  pub none : groups plan ≡ false → plan.aggs ≡ []
