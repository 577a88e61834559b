-- The query that a draft is, once nothing is wrong with its names.
use Rattle.std.specs.Prelude.{ℕ, List, map, option_map}
use Rattle.row_codec.specs.declared.values.Agg.{Agg}
use Rattle.row_codec.specs.declared.values.Agg.TheVariants as agg
use Rattle.row_codec.specs.declared.values.Column.{Column}
use Rattle.scan_filter.specs.declared.pred.Pred.{Pred}
use Rattle.query_plan.specs.declared.draft.AggDraft.{AggDraft}
use Rattle.query_plan.specs.declared.draft.AggDraft.TheVariants.{Count, Sum, Min, Max}
use Rattle.query_plan.specs.declared.draft.FilterDraft.{FilterDraft}
use Rattle.query_plan.specs.declared.draft.SideDraft.{SideDraft}
use Rattle.query_plan.specs.declared.draft.Draft.{Draft}
use Rattle.query_plan.specs.declared.plan.Query.{Query}
use Rattle.query_plan.specs.declared.plan.SidePlan.{SidePlan}
use Rattle.query_plan.specs.Columns.{place_named, row_columns, right_columns}

-- the places of a pair of columns
abbrev pub pair_on : List Column → List Column → List ℕ × List ℕ → ℕ × ℕ
pair_on left right pair = (place_named pair.0 left, place_named pair.1 right)

-- the place of a column to group by
abbrev pub group_on : List Column → List ℕ → ℕ
group_on columns name = place_named name columns

-- an aggregate, and a comparison, over the places of these columns
abbrev pub agg_on : List Column → AggDraft → Agg
agg_on columns Count = agg.Count
agg_on columns (Sum name) = agg.Sum (place_named name columns)
agg_on columns (Min name) = agg.Min (place_named name columns)
agg_on columns (Max name) = agg.Max (place_named name columns)

abbrev pub pred_on : List Column → FilterDraft → Pred
pred_on columns filter =
    record { column = place_named filter.column columns; op = filter.op; value = filter.value }

-- a side, and a query
abbrev pub side_of : SideDraft → SidePlan
side_of side =
    record { file = side.file; columns = side.columns; preds = map (pred_on side.columns) side.filter }

unfoldable pub query_of : Draft → Query
query_of draft =
    let columns = row_columns draft.left draft.right in
    record {
      page_blocks = draft.page_blocks;
      limit = draft.limit;
      quota = draft.quota;
      output = draft.output;
      left = side_of draft.left;
      right = option_map side_of draft.right;
      on = map (pair_on draft.left.columns (right_columns draft.right)) draft.on;
      group = map (group_on columns) draft.group;
      aggs = map (agg_on columns) draft.aggs;
      fragments = draft.fragments;
    }
