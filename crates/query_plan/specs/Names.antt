-- What is wrong with the columns that a query names, once its keys are read.
use Rattle.std.specs.Prelude.{codes, ℕ, List, take, if◌then◌else◌, Option, Some, None, is_some, bytes_eq}
use Rattle.std.specs.Option.{option_or}
use Rattle.std.specs.List.{list_any}
use Rattle.row_codec.specs.Row.{kind_of}
use Rattle.row_codec.specs.declared.values.Kind.{Kind}
use Rattle.row_codec.specs.declared.values.Kind.TheVariants.{Int}
use Rattle.row_codec.specs.declared.values.Column.{Column}
use Rattle.query_plan.specs.declared.draft.AggDraft.{AggDraft}
use Rattle.query_plan.specs.declared.draft.AggDraft.TheVariants.{Count, Sum, Min, Max}
use Rattle.query_plan.specs.declared.draft.FilterDraft.{FilterDraft}
use Rattle.query_plan.specs.declared.draft.SideDraft.{SideDraft}
use Rattle.query_plan.specs.declared.draft.Draft.{Draft}
use Rattle.query_plan.specs.declared.error.PlanErr.{PlanErr}
use Rattle.query_plan.specs.declared.error.PlanErr.TheVariants as err
use Rattle.query_plan.specs.Faults.{key_in, member_in, first_from}
use Rattle.query_plan.specs.Columns.{named, same_kind, row_columns, right_columns}

-- a name of no column, or else what is wrong with the column's kind
abbrev pub judged : Option (ℕ × Kind) → List ℕ → (Kind → Option PlanErr) → Option PlanErr
judged None path judge = Some (err.UnknownColumn path)
judged (Some found) path judge = judge found.1

-- the same of the column of this name
abbrev pub named_fault : List ℕ → List Column → List ℕ → (Kind → Option PlanErr) → Option PlanErr
named_fault name columns path judge = judged (named name columns) path judge

-- kinds that are not the same
abbrev pub unless_same : Kind → Kind → List ℕ → Option PlanErr
unless_same a b path = if same_kind a b then None else Some (err.KindClash path)

-- a column of a side whose name an earlier one has
abbrev pub repeat_fault : List Column → List ℕ → ℕ → Column → Option PlanErr
repeat_fault columns path place column =
    if is_some (named column.name (take place columns)) then Some (err.Repeated (member_in path place)) else None

-- a pair of columns that are to be equal
abbrev pub on_fault : List Column → List Column → List ℕ → ℕ → List ℕ × List ℕ → Option PlanErr
on_fault left right path place pair =
    let at = member_in path place in
    named_fault pair.0 left (member_in at 0) (λ kind.
    named_fault pair.1 right (member_in at 1) (λ other. unless_same kind other at))

-- a name that is among earlier ones
abbrev pub if_among : List (List ℕ) → List ℕ → List ℕ → Option PlanErr
if_among names name path = if list_any (λ other. bytes_eq other name) names then Some (err.Repeated path) else None

-- a column to group by, and by none of the earlier ones
abbrev pub group_column_fault : List Column → List (List ℕ) → List ℕ → List ℕ → Option PlanErr
group_column_fault columns earlier path name = named_fault name columns path (λ kind. if_among earlier name path)

-- the member at a place of a group
abbrev pub group_fault : List Column → List (List ℕ) → List ℕ → ℕ → List ℕ → Option PlanErr
group_fault columns names path place name = group_column_fault columns (take place names) (member_in path place) name

-- a column of numbers
abbrev pub int_fault : List Column → List ℕ → List ℕ → Option PlanErr
int_fault columns path name = named_fault name columns path (λ kind. unless_same kind Int path)

-- the column of an aggregate, if it is of one
abbrev pub agg_column_fault : List Column → List ℕ → AggDraft → Option PlanErr
agg_column_fault columns path Count = None
agg_column_fault columns path (Sum name) = int_fault columns path name
agg_column_fault columns path (Min name) = int_fault columns path name
agg_column_fault columns path (Max name) = int_fault columns path name

-- the aggregate at a place of the list
abbrev pub agg_fault : List Column → List ℕ → ℕ → AggDraft → Option PlanErr
agg_fault columns path place agg = agg_column_fault columns (key_in (member_in path place) (codes "column")) agg

-- a column, and a value of its kind
abbrev pub filter_fault : List Column → List ℕ → ℕ → FilterDraft → Option PlanErr
filter_fault columns path place filter =
    let at = member_in path place in
    named_fault filter.column columns (key_in at (codes "column")) (λ kind.
    unless_same kind (kind_of filter.value) (key_in at (codes "value")))

-- ---- all names of a query

-- a side that stands at a path: its repeated columns; its filters
unfoldable pub side_repeats : List ℕ → SideDraft → Option PlanErr
side_repeats path side = first_from (repeat_fault side.columns (key_in path (codes "columns"))) 0 side.columns

unfoldable pub side_filters : List ℕ → SideDraft → Option PlanErr
side_filters path side = first_from (filter_fault side.columns (key_in path (codes "filter"))) 0 side.filter

-- the fault of the right side, where there is one
abbrev pub on_right : (SideDraft → Option PlanErr) → Option SideDraft → Option PlanErr
on_right judge None = None
on_right judge (Some side) = judge side

-- repeated columns of the left side, then of the right one
unfoldable pub repeats_fault : List ℕ → Draft → Option PlanErr
repeats_fault path draft =
    option_or (side_repeats (key_in path (codes "left")) draft.left)
    (on_right (side_repeats (key_in path (codes "right"))) draft.right)

-- the pairs of columns that are to be equal
unfoldable pub pairs_fault : List ℕ → Draft → Option PlanErr
pairs_fault path draft =
    first_from (on_fault draft.left.columns (right_columns draft.right) (key_in path (codes "on"))) 0 draft.on

-- the columns to group by, then those of the aggregates
unfoldable pub grouped_fault : List ℕ → List Column → Draft → Option PlanErr
grouped_fault path columns draft =
    option_or (first_from (group_fault columns draft.group (key_in path (codes "group"))) 0 draft.group)
    (first_from (agg_fault columns (key_in path (codes "agg"))) 0 draft.aggs)

-- the filter of the left side, then that of the right one
unfoldable pub filters_fault : List ℕ → Draft → Option PlanErr
filters_fault path draft =
    option_or (side_filters (key_in path (codes "left")) draft.left)
    (on_right (side_filters (key_in path (codes "right"))) draft.right)

-- the first fault of the names of a query
unfoldable pub names_fault : List ℕ → Draft → Option PlanErr
names_fault path draft =
    option_or (repeats_fault path draft)
    (option_or (pairs_fault path draft)
    (option_or (grouped_fault path (row_columns draft.left draft.right) draft) (filters_fault path draft)))
