-- What the tables of a document say, once nothing is wrong with their keys.
use Rattle.std.specs.Prelude.{codes, ℕ, List, [], ◌∷◌, option_map, unwrap_or}
use Rattle.toml.specs.Data.{Data, Members, no_members, get_member}
use Rattle.row_codec.specs.declared.values.Kind.TheVariants as kind
use Rattle.row_codec.specs.declared.values.Column.{Column}
use Rattle.row_codec.specs.declared.values.Value.TheVariants.{Text}
use Rattle.scan_filter.specs.declared.pred.Cmp.{Cmp}
use Rattle.scan_filter.specs.declared.pred.Cmp.TheVariants.{Eq}
use Rattle.query_plan.specs.declared.draft.AggDraft.{AggDraft}
use Rattle.query_plan.specs.declared.draft.AggWord.{AggWord}
use Rattle.query_plan.specs.declared.draft.AggWord.TheVariants.{Count}
use Rattle.query_plan.specs.declared.draft.FilterDraft.{FilterDraft}
use Rattle.query_plan.specs.declared.draft.SideDraft.{SideDraft}
use Rattle.query_plan.specs.declared.draft.Draft.{Draft}
use Rattle.query_plan.specs.Words.{cmp_of, agg_of, agg_over, column_of}
use Rattle.query_plan.specs.Values.{under, number_of, number_at, text_at, list_at, text_of, list_of, table_of, scalar_of}

-- a column
abbrev pub column_in : Data → Column
column_in value = unwrap_or (column_of (text_of value)) (record { name = []; kind = kind.Text })

-- the texts of a list of two
abbrev pub both : List Data → List ℕ × List ℕ
both (left ∷ right ∷ []) = (text_of left, text_of right)
both _ = ([], [])

abbrev pub pair_in : Data → List ℕ × List ℕ
pair_in value = both (list_of value)

-- a comparison, by its sign
abbrev pub cmp_in : Data → Cmp
cmp_in value = unwrap_or (cmp_of (text_of value)) Eq

-- a filter
unfoldable pub filter_in : Members → FilterDraft
filter_in entries = record {
  column = text_at (codes "column") entries;
  op = under (codes "op") entries cmp_in Eq;
  value = under (codes "value") entries scalar_of (Text []);
}

-- the name of an aggregate
abbrev pub word_in : Data → AggWord
word_in value = unwrap_or (agg_of (text_of value)) Count

-- an aggregate
unfoldable pub agg_in : Members → AggDraft
agg_in entries = agg_over (under (codes "op") entries word_in Count) (text_at (codes "column") entries)

-- a side
unfoldable pub side_in : Members → SideDraft
side_in entries = record {
  file = text_at (codes "file") entries;
  columns = list_at (codes "columns") entries column_in;
  filter = list_at (codes "filter") entries (λ value. filter_in (table_of value));
}

-- a query; an optional list that is not there is empty, and fragments that are not there are one
unfoldable pub query_in : Members → Draft
query_in entries = record {
  page_blocks = number_at (codes "page_blocks") entries;
  limit = number_at (codes "limit") entries;
  quota = number_at (codes "quota") entries;
  output = text_at (codes "output") entries;
  left = under (codes "left") entries (λ value. side_in (table_of value)) (side_in no_members);
  right = option_map (λ value. side_in (table_of value)) (get_member (codes "right") entries);
  on = list_at (codes "on") entries pair_in;
  group = list_at (codes "group") entries text_of;
  aggs = list_at (codes "agg") entries (λ value. agg_in (table_of value));
  fragments = under (codes "fragments") entries number_of 1;
}
