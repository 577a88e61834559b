-- A plan with which nothing is wrong keeps the rules.
use Rattle.std.proofs.Common.{◌≡◌, ◌≢◌, ◌∙◌, ◌≤◌, ◌<◌, ◌-◌, ◌*◌, ℕ, Bool, true, false, cond, List, [], Option, Some, None, IsNone, IfSome, All, length, get_or, take, map, option_map, eqb, codes, sum_by, subst, sym, refl, ap, arith}
use Rattle.std.specs.Prelude.{◌&&◌, nat_le, nat_eq, not, is_some, unwrap_or}
use Rattle.std.specs.Int.{is_power_of_two}
use Rattle.std.specs.Option.{option_or}
use Rattle.std.specs.List.{IsDistinct, ends_with}
use Rattle.std.proofs.lemmas.Bool.{leb-true}
use Rattle.std.proofs.lemmas.List.Elements.{All-map, All-same}
use Rattle.toml.specs.Data.{Data, Members, get_member}
use Rattle.row_codec.specs.Row.{kind_of}
use Rattle.row_codec.specs.declared.values.Column.{Column}
use Rattle.row_codec.specs.declared.values.Kind.TheVariants as kind
use Rattle.scan_filter.specs.declared.pred.Pred.{Pred}
use Rattle.query_plan.specs.declared.draft.AggDraft.{AggDraft}
use Rattle.query_plan.specs.declared.draft.AggDraft.TheVariants.{Count, Sum, Min, Max}
use Rattle.query_plan.specs.declared.draft.FilterDraft.{FilterDraft}
use Rattle.query_plan.specs.declared.draft.SideDraft.{SideDraft}
use Rattle.query_plan.specs.declared.draft.Draft.{Draft}
use Rattle.query_plan.specs.declared.error.PlanErr.{PlanErr}
use Rattle.query_plan.specs.declared.error.PlanErr.TheVariants as err
use Rattle.query_plan.specs.declared.limit.Limit.TheVariants.{Within, Power, Blocks}
use Rattle.query_plan.specs.declared.plan.Plan.{Plan}
use Rattle.query_plan.specs.declared.plan.Query.{Query}
use Rattle.query_plan.specs.Columns.{row_columns, right_columns}
use Rattle.query_plan.specs.Drafts.{column_in, query_in, side_in, pair_in, filter_in, agg_in}
use Rattle.query_plan.specs.Faults.{first_from, found_fault, key_fault, key_in, member_in, number, table, list_of, table_fault, text}
use Rattle.query_plan.specs.Keys.{aggregate, any, column, filter, query, query_rows, side, side_rows, top_rows}
use Rattle.query_plan.specs.Names.{agg_fault, agg_column_fault, filter_fault, filters_fault, group_fault, grouped_fault, int_fault, names_fault, named_fault, on_fault, on_right, pairs_fault, repeats_fault, side_filters, side_repeats, unless_same}
use Rattle.query_plan.specs.PlanOf.{plan_in, quota_fault, trace_in}
use Rattle.query_plan.specs.Presences.{has, lacks}
use Rattle.query_plan.specs.Resolved.{agg_on, group_on, pair_on, pred_on, query_of, side_of}
use Rattle.query_plan.specs.Rules.{HasKind, IsOverInts, IsPair, IsPowerWithin, IsWithin, KeepsQuery, KeepsRules, KeepsSide, columns_of_side, columns_over}
use Rattle.query_plan.specs.Values.{list_at, number_at, number_of, table_of, text_of, under}
use Rattle.query_plan.specs.Sizes.{slots_of}
use Rattle.query_plan.specs.Words.{column_as, column_of, fits}
use Rattle.query_plan.proofs.Faultless.{Reads, ReadsList, and_left, and_right, clear_at, list_reads, needed_reads, none_first, none_then, number_kept, one_or_kept, rows_clear, table_clear, within}
use Rattle.query_plan.proofs.Items.{length_view}
use Rattle.query_plan.proofs.NamesFound.{groups_inside, groups_once, has_kind, known, names_once, same_kinds}
use Rattle.query_plan.proofs.OnlyGrouped.{fragments_alone, no_items, only_grouped}

-- ---- columns, filters, pairs, aggregates

if_some_map : {A B : Type 0} (found : Option A) (P : B → Type 0) (make : A → B) → ((x : A) → P (make x)) → IfSome (option_map make found) P
if_some_map None P make holds = tt
if_some_map (Some x) P make holds = holds x

plain_if : (test : Bool) (column found : Column) → column.kind ≢ kind.Wide → cond test (Some column) None ≡ Some found → found.kind ≢ kind.Wide
plain_if true first found plain e = let same : first ≡ found = cc e in subst (λ (c : Column). c.kind ≢ kind.Wide) same plain
plain_if false first found plain e = cc e

plain_either : (one other : Option Column) → ((found : Column) → one ≡ Some found → found.kind ≢ kind.Wide) → ((found : Column) → other ≡ Some found → found.kind ≢ kind.Wide)
    → (found : Column) → option_or one other ≡ Some found → found.kind ≢ kind.Wide
plain_either None other a b found e = b found e
plain_either (Some first) other a b found e = a found e

plain_or : (found : Option Column) → ((column : Column) → found ≡ Some column → column.kind ≢ kind.Wide) → (unwrap_or found (record { name = []; kind = kind.Text })).kind ≢ kind.Wide
plain_or None plain = λ e. cc e
plain_or (Some first) plain = plain first refl

-- a column of a document holds ints or texts
plain_column : (value : Data) → (column_in value).kind ≢ kind.Wide
plain_column value =
    let bytes = text_of value in
    plain_or (column_of bytes) (plain_either (column_as kind.Int (codes ":int") bytes) (column_as kind.Text (codes ":text") bytes)
    (λ found e. plain_if (ends_with nat_eq bytes (codes ":int")) (record { name = take (length bytes - length (codes ":int")) bytes; kind = kind.Int }) found (λ same. cc same) e)
    (λ found e. plain_if (ends_with nat_eq bytes (codes ":text")) (record { name = take (length bytes - length (codes ":text")) bytes; kind = kind.Text }) found (λ same. cc same) e))

plain_columns : (items : List Data) → All (λ (c : Column). c.kind ≢ kind.Wide) (map column_in items)
plain_columns items = All-map (λ (c : Column). c.kind ≢ kind.Wide) column_in items (λ j d below. plain_column (get_or items j d))

pub preds_kept : (columns : List Column) (path : List ℕ) (filters : List FilterDraft) → first_from (filter_fault columns path) 0 filters ≡ None
    → All (λ (pred : Pred). HasKind columns pred.column (kind_of pred.value)) (map (pred_on columns) filters)
preds_kept columns path filters e = All-map (λ (pred : Pred). HasKind columns pred.column (kind_of pred.value)) (pred_on columns) filters (λ j d below.
    let filter : FilterDraft = get_or filters j d in
    let at = member_in path j in
    let it = known filter.column columns (key_in at (codes "column")) (λ k. unless_same k (kind_of filter.value) (key_in at (codes "value"))) (clear_at (filter_fault columns path) filters e j d below) in
    subst (HasKind columns (pred_on columns filter).column) (same_kinds it.kind (kind_of filter.value) (key_in at (codes "value")) it.clear) (has_kind it.at))

pub pairs_kept : (left right : List Column) (path : List ℕ) (on : List (List ℕ × List ℕ)) → first_from (on_fault left right path) 0 on ≡ None
    → All (IsPair left right) (map (pair_on left right) on)
pairs_kept left right path on e = All-map (IsPair left right) (pair_on left right) on (λ j d below.
    let pair : List ℕ × List ℕ = get_or on j d in
    let at = member_in path j in
    let one = known pair.0 left (member_in at 0) (λ k. named_fault pair.1 right (member_in at 1) (λ other. unless_same k other at)) (clear_at (on_fault left right path) on e j d below) in
    let two = known pair.1 right (member_in at 1) (λ other. unless_same one.kind other at) one.clear in
    (one.kind, has_kind one.at, subst (HasKind right (pair_on left right pair).1) (sym (same_kinds one.kind two.kind at two.clear)) (has_kind two.at)))

over_ints : (columns : List Column) (path name : List ℕ) → int_fault columns path name ≡ None → HasKind columns (group_on columns name) kind.Int
over_ints columns path name e =
    let it = known name columns path (λ k. unless_same k kind.Int path) e in
    subst (HasKind columns (group_on columns name)) (same_kinds it.kind kind.Int path it.clear) (has_kind it.at)

agg_kept : (columns : List Column) (path : List ℕ) (agg : AggDraft) → agg_column_fault columns path agg ≡ None → IsOverInts columns (agg_on columns agg)
agg_kept columns path Count e = tt
agg_kept columns path (Sum name) e = over_ints columns path name e
agg_kept columns path (Min name) e = over_ints columns path name e
agg_kept columns path (Max name) e = over_ints columns path name e

pub aggs_kept : (columns : List Column) (path : List ℕ) (aggs : List AggDraft) → first_from (agg_fault columns path) 0 aggs ≡ None
    → All (IsOverInts columns) (map (agg_on columns) aggs)
aggs_kept columns path aggs e = All-map (IsOverInts columns) (agg_on columns) aggs (λ j d below.
    agg_kept columns (key_in (member_in path j) (codes "column")) (get_or aggs j d) (clear_at (agg_fault columns path) aggs e j d below))

-- ---- a side

pub side_keeps : (path at : List ℕ) (value : Data) → side path value ≡ None → side_repeats at (side_in (table_of value)) ≡ None → side_filters at (side_in (table_of value)) ≡ None
    → KeepsSide (side_of (side_in (table_of value)))
unfolding side table side_in side_repeats side_filters
side_keeps path at value e repeats filters =
    let entries : Members = table_of value in
    let rows = rows_clear side_rows path entries (table_clear side_rows (λ p entries. None) path value e).0 in
    let columns = list_reads column_in 1 64 column true (codes "columns") path entries rows.1.0 in
    let filters_read = list_reads (λ v. filter_in (table_of v)) 0 16 filter false (codes "filter") path entries rows.1.1.0 in
    let there = needed_reads (list_of 1 64 column) (codes "columns") path entries rows.1.0 in
    let made : length (list_at (codes "columns") entries column_in) ≡ length columns.items = ap length columns.are ∙ length_view column_in columns.items in
    let few : length (list_at (codes "filter") entries (λ v. filter_in (table_of v))) ≡ length filters_read.items = ap length filters_read.are ∙ length_view (λ v. filter_in (table_of v)) filters_read.items in
    let some : 1 ≤ length columns.items = columns.long (rw there.there refl) in
    let counted = length_view (pred_on (list_at (codes "columns") entries column_in)) (list_at (codes "filter") entries (λ v. filter_in (table_of v))) in
    record {
      columns = (omega (arith, made, some), omega (arith, made, columns.short));
      names = names_once (list_at (codes "columns") entries column_in) (key_in at (codes "columns")) repeats;
      kinds = rw columns.are (plain_columns columns.items);
      few = omega (arith, few, counted, filters_read.short);
      preds = preds_kept (list_at (codes "columns") entries column_in) (key_in at (codes "filter")) (list_at (codes "filter") entries (λ v. filter_in (table_of v))) filters;
    }

-- the right side, where there is one
right_keeps : (path at : List ℕ) (found : Option Data) → found_fault false side path found ≡ None
    → on_right (side_repeats at) (option_map (λ value. side_in (table_of value)) found) ≡ None → on_right (side_filters at) (option_map (λ value. side_in (table_of value)) found) ≡ None
    → IfSome (option_map side_of (option_map (λ value. side_in (table_of value)) found)) KeepsSide
right_keeps path at None e repeats filters = tt
right_keeps path at (Some value) e repeats filters = side_keeps path at value e repeats filters

-- ---- a query

-- the columns of a query's row and of its right side are those of its draft
columns_are : (left : SideDraft) (right : Option SideDraft) → row_columns left right ≡ columns_over left.columns (option_map (λ side. side.columns) (option_map side_of right))
columns_are left None = refl
columns_are left (Some right) = refl

right_are : (right : Option SideDraft) → right_columns right ≡ columns_of_side (option_map side_of right)
right_are None = refl
right_are (Some right) = refl

-- a join has 1 to 8 pairs
joins_on : (path : List ℕ) (entries : Members) (found : Option Data) → get_member (codes "right") entries ≡ found
    → key_fault (is_some found) (codes "on") (list_of 1 8 (list_of 2 2 (text any))) path entries ≡ None
    → IfSome (option_map side_of (option_map (λ value. side_in (table_of value)) found)) (λ side. IsWithin 1 8 (length (list_at (codes "on") entries pair_in)))
joins_on path entries None is e = tt
joins_on path entries (Some value) is e =
    let on = list_reads pair_in 1 8 (list_of 2 2 (text any)) true (codes "on") path entries e in
    let there = needed_reads (list_of 1 8 (list_of 2 2 (text any))) (codes "on") path entries e in
    let made : length (list_at (codes "on") entries pair_in) ≡ length on.items = ap length on.are ∙ length_view pair_in on.items in
    let some : 1 ≤ length on.items = on.long (rw there.there refl) in
    (omega (arith, made, some), omega (arith, made, on.short))

-- a query that does not join groups
groups_some : (path : List ℕ) (entries : Members) (found : Option Data) → get_member (codes "right") entries ≡ found
    → key_fault (not (is_some found)) (codes "group") (list_of 1 8 (text any)) path entries ≡ None
    → IsNone (option_map side_of (option_map (λ value. side_in (table_of value)) found)) → 1 ≤ length (list_at (codes "group") entries text_of)
groups_some path entries None is e none =
    let group = list_reads text_of 1 8 (text any) true (codes "group") path entries e in
    let there = needed_reads (list_of 1 8 (text any)) (codes "group") path entries e in
    let made : length (list_at (codes "group") entries text_of) ≡ length group.items = ap length group.are ∙ length_view text_of group.items in
    let some : 1 ≤ length group.items = group.long (rw there.there refl) in
    omega (arith, made, some)
groups_some path entries (Some value) is e none = cc none

-- without a key there is no right side, and a group that is there has a column
no_right : (found : Option Data) → not (is_some found) ≡ true → IsNone (option_map side_of (option_map (λ value. side_in (table_of value)) found))
no_right None e = refl
no_right (Some value) e = cc e

groups_there : (entries : Members) (found : Option Data) → get_member (codes "group") entries ≡ found → ReadsList text_of 1 8 (text any) (codes "group") entries → has (codes "group") entries ≡ true
    → 1 ≤ length (list_at (codes "group") entries text_of)
groups_there entries None is reads there = let there_so : false ≡ true = rw is at there in cc there_so
groups_there entries (Some value) is reads there =
    let made : length (list_at (codes "group") entries text_of) ≡ length reads.items = ap length reads.are ∙ length_view text_of reads.items in
    let some : 1 ≤ length reads.items = reads.long (rw is refl) in
    omega (arith, made, some)

names_clear : (path : List ℕ) (draft : Draft) → names_fault path draft ≡ None
    → (repeats_fault path draft ≡ None) × (pairs_fault path draft ≡ None) × (grouped_fault path (row_columns draft.left draft.right) draft ≡ None) × (filters_fault path draft ≡ None)
unfolding names_fault
names_clear path draft e =
    let behind_repeats = none_then (repeats_fault path draft) (option_or (pairs_fault path draft) (option_or (grouped_fault path (row_columns draft.left draft.right) draft) (filters_fault path draft))) e in
    let behind_pairs = none_then (pairs_fault path draft) (option_or (grouped_fault path (row_columns draft.left draft.right) draft) (filters_fault path draft)) behind_repeats in (
      none_first (repeats_fault path draft) (option_or (pairs_fault path draft) (option_or (grouped_fault path (row_columns draft.left draft.right) draft) (filters_fault path draft))) e,
      none_first (pairs_fault path draft) (option_or (grouped_fault path (row_columns draft.left draft.right) draft) (filters_fault path draft)) behind_repeats,
      none_first (grouped_fault path (row_columns draft.left draft.right) draft) (filters_fault path draft) behind_pairs,
      none_then (grouped_fault path (row_columns draft.left draft.right) draft) (filters_fault path draft) behind_pairs,
    )

sides_clear : (path : List ℕ) (draft : Draft) → repeats_fault path draft ≡ None → filters_fault path draft ≡ None
    → (side_repeats (key_in path (codes "left")) draft.left ≡ None) × (side_filters (key_in path (codes "left")) draft.left ≡ None)
    × (on_right (side_repeats (key_in path (codes "right"))) draft.right ≡ None) × (on_right (side_filters (key_in path (codes "right"))) draft.right ≡ None)
unfolding repeats_fault filters_fault
sides_clear path draft repeats filters = (
  none_first (side_repeats (key_in path (codes "left")) draft.left) (on_right (side_repeats (key_in path (codes "right"))) draft.right) repeats,
  none_first (side_filters (key_in path (codes "left")) draft.left) (on_right (side_filters (key_in path (codes "right"))) draft.right) filters,
  none_then (side_repeats (key_in path (codes "left")) draft.left) (on_right (side_repeats (key_in path (codes "right"))) draft.right) repeats,
  none_then (side_filters (key_in path (codes "left")) draft.left) (on_right (side_filters (key_in path (codes "right"))) draft.right) filters,
)

-- what a query groups
GroupsKept : List Column → Draft → Type 0
GroupsKept columns draft =
    IsDistinct eqb (map (group_on columns) draft.group) × All (λ place. place < length columns) (map (group_on columns) draft.group) × All (IsOverInts columns) (map (agg_on columns) draft.aggs)

groups_kept : (path : List ℕ) (columns : List Column) (draft : Draft) → grouped_fault path columns draft ≡ None → GroupsKept columns draft
unfolding grouped_fault GroupsKept
groups_kept path columns draft e =
    let names = none_first (first_from (group_fault columns draft.group (key_in path (codes "group"))) 0 draft.group) (first_from (agg_fault columns (key_in path (codes "agg"))) 0 draft.aggs) e in
    let aggs = none_then (first_from (group_fault columns draft.group (key_in path (codes "group"))) 0 draft.group) (first_from (agg_fault columns (key_in path (codes "agg"))) 0 draft.aggs) e in
    (groups_once columns draft.group (key_in path (codes "group")) names, groups_inside columns draft.group (key_in path (codes "group")) names, aggs_kept columns (key_in path (codes "agg")) draft.aggs aggs)

left_keeps : (entries : Members) (at : List ℕ) → Reads side (codes "left") entries → side_repeats at (query_in entries).left ≡ None → side_filters at (query_in entries).left ≡ None
    → KeepsSide (side_of (query_in entries).left)
unfolding query_in
left_keeps entries at left repeats filters =
    let repeats_so : side_repeats at (side_in (table_of left.value)) ≡ None = rw left.there at repeats in
    let filters_so : side_filters at (side_in (table_of left.value)) ≡ None = rw left.there at filters in
    rw left.there (side_keeps left.path at left.value left.clear repeats_so filters_so)

pub query_keeps : (path : List ℕ) (value : Data) → query path value ≡ None → KeepsQuery (query_of (query_in (table_of value)))
unfolding query query_of query_in pairs_fault key_fault GroupsKept
query_keeps path value e =
    let entries : Members = table_of value in
    let draft : Draft = query_in entries in
    let both = table_clear query_rows (λ p members. names_fault p (query_in members)) path value e in
    let rows = rows_clear query_rows path entries both.0 in
    let group_key = rows.1.1.1.1.1.1.1.0 in
    let group = list_reads text_of 1 8 (text any) (lacks (codes "right") entries) (codes "group") path entries group_key in
    let aggs = list_reads (λ v. agg_in (table_of v)) 0 16 aggregate false (codes "agg") path entries rows.1.1.1.1.1.1.1.1.0 in
    let left = needed_reads side (codes "left") path entries rows.1.1.1.1.0 in
    let names = names_clear path draft both.1 in
    let sides = sides_clear path draft names.0 names.3 in
    let grouped = groups_kept path (row_columns draft.left draft.right) draft names.2 in
    let columns = columns_are draft.left draft.right in
    let made : length draft.group ≡ length group.items = ap length group.are ∙ length_view text_of group.items in
    let counted = length_view (group_on (row_columns draft.left draft.right)) draft.group in
    let few : length draft.aggs ≡ length aggs.items = ap length aggs.are ∙ length_view (λ v. agg_in (table_of v)) aggs.items in
    let computed = length_view (agg_on (row_columns draft.left draft.right)) draft.aggs in
    let paired = length_view (pair_on draft.left.columns (right_columns draft.right)) draft.on in
    let size = number_kept (Power 1 256) (codes "page_blocks") path entries rows.0 in
    let page_blocks : ℕ = number_at (codes "page_blocks") entries in
    let alone = fragments_alone path entries (get_member (codes "fragments") entries) refl both.0 in
    record {
      page_blocks = (within 1 256 page_blocks (and_left (nat_le 1 page_blocks && nat_le page_blocks 256) (is_power_of_two page_blocks) size), and_right (nat_le 1 page_blocks && nat_le page_blocks 256) (is_power_of_two page_blocks) size);
      left = left_keeps entries (key_in path (codes "left")) left sides.0 sides.1;
      right = right_keeps (key_in path (codes "right")) (key_in path (codes "right")) (get_member (codes "right") entries) rows.1.1.1.1.1.0 sides.2 sides.3;
      joins = rw paired (joins_on path entries (get_member (codes "right") entries) refl rows.1.1.1.1.1.1.0);
      pairs = rw (← right_are draft.right) (pairs_kept draft.left.columns (right_columns draft.right) (key_in path (codes "on")) draft.on names.1);
      groups = (omega (arith, made, counted, group.short), λ none. rw counted (groups_some path entries (get_member (codes "right") entries) refl group_key none));
      distinct = grouped.0;
      inside = rw (← columns) grouped.1;
      few = omega (arith, few, computed, aggs.short);
      aggs = rw (← columns) grouped.2;
      none = λ none. ap (map (agg_on (row_columns draft.left draft.right))) (only_grouped text_of (λ v. agg_in (table_of v)) (text any) path entries both.0 group (no_items (group_on (row_columns draft.left draft.right)) draft.group none));
      fragments = one_or_kept false 8 (key_in path (codes "fragments")) (get_member (codes "fragments") entries) (omega arith) rows.1.1.1.1.1.1.1.1.1.0;
      alone = λ more. (no_right (get_member (codes "right") entries) (alone more).1, rw counted (groups_there entries (get_member (codes "group") entries) refl group (alone more).0));
    }

-- ---- a plan

trace_kept : (path : List ℕ) (entries : Members) → key_fault (has (codes "trace") entries) (codes "trace_entries") (number (Within 1 1048576)) path entries ≡ None
    → IfSome (trace_in entries) (λ it. IsWithin 1 1048576 it.entries)
unfolding key_fault
trace_kept path entries e =
    let kept = one_or_kept (has (codes "trace") entries) 1048576 (key_in path (codes "trace_entries")) (get_member (codes "trace_entries") entries) (omega arith) e in
    if_some_map (get_member (codes "trace") entries) (λ it. IsWithin 1 1048576 it.entries) (λ value. record { output = text_of value; entries = under (codes "trace_entries") entries number_of 1 }) (λ value. kept)

blocks_within : (block_len n : ℕ) → fits (Blocks 1 1048576 block_len) n ≡ true → IsWithin 1 1048576 n × (n * block_len ≤ 2147483648)
blocks_within block_len n e = (
  within 1 1048576 n (and_left (nat_le 1 n && nat_le n 1048576) (nat_le (n * block_len) 2147483648) e),
  leb-true (n * block_len) 2147483648 (and_right (nat_le 1 n && nat_le n 1048576) (nat_le (n * block_len) 2147483648) e),
)

power_within : (low high n : ℕ) → fits (Power low high) n ≡ true → IsPowerWithin low high n
power_within low high n e =
    (within low high n (and_left (nat_le low n && nat_le n high) (is_power_of_two n) e), and_right (nat_le low n && nat_le n high) (is_power_of_two n) e)

quotas_fit : (slots total : ℕ) (why : PlanErr) (test : Bool) → nat_le total slots ≡ test → cond test None (Some why) ≡ None → total ≤ slots
quotas_fit slots total why true is e = leb-true total slots is
quotas_fit slots total why false is e = cc e

table_keeps : (slots : ℕ) (entries : Members) → table_fault top_rows [] entries ≡ None → quota_fault slots (plan_in entries).queries ≡ None → KeepsRules slots (plan_in entries)
unfolding plan_in
table_keeps slots entries e quotas =
    let queries : List Query = (plan_in entries).queries in
    let rows = rows_clear top_rows [] entries e in
    let list = list_reads (λ value. query_of (query_in (table_of value))) 1 16 query true (codes "query") [] entries rows.1.1.1.1.1.0 in
    let there = needed_reads (list_of 1 16 query) (codes "query") [] entries rows.1.1.1.1.1.0 in
    let some : 1 ≤ length list.items = list.long (rw there.there refl) in
    let made : length queries ≡ length list.items = ap length list.are ∙ length_view (λ value. query_of (query_in (table_of value))) list.items in
    let blocks = blocks_within (number_at (codes "block_len") entries) (number_at (codes "blocks") entries) (number_kept (Blocks 1 1048576 (number_at (codes "block_len") entries)) (codes "blocks") [] entries rows.1.0) in
    let writers = number_kept (Within 0 8) (codes "writers") [] entries rows.1.1.0 in
    record {
      block_len = power_within 64 65536 (number_at (codes "block_len") entries) (number_kept (Power 64 65536) (codes "block_len") [] entries rows.0);
      blocks = blocks.0;
      memory = blocks.1;
      writers = (within 0 8 (number_at (codes "writers") entries) writers).1;
      trace = trace_kept [] entries rows.1.1.1.1.0;
      some = (omega (arith, made, some), omega (arith, made, list.short));
      queries = All-same KeepsQuery queries (map (λ value. query_of (query_in (table_of value))) list.items) list.are (All-map KeepsQuery (λ value. query_of (query_in (table_of value))) list.items (λ j d below.
          let it = list.clear j d below in
          query_keeps it.0 (get_or list.items j d) it.1));
      quotas = quotas_fit slots (sum_by slots_of queries) (err.QuotaSum (codes "query")) (nat_le (sum_by slots_of queries) slots) refl quotas;
    }

-- the plan of a table with which nothing is wrong, whose quotas fit
pub plan_keeps : (slots : ℕ) (entries : Members) (plan : Plan) → plan ≡ plan_in entries → table_fault top_rows [] entries ≡ None → quota_fault slots plan.queries ≡ None → KeepsRules slots plan
plan_keeps slots entries plan made e quotas =
    let fit : quota_fault slots (plan_in entries).queries ≡ None = rw made at quotas in
    subst (KeepsRules slots) (sym made) (table_keeps slots entries e fit)
