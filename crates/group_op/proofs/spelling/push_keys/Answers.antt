use Rattle.std.proofs.Common.{◌≡◌}
use Rattle.std.specs.Prelude.{Some, slice_get, slice_index_or}
use Rattle.group_op.proofs.OwnBytes.{field_short, fields_more, keys_more, value_there, values_more}
use Rattle.group_op.proofs.spelling.push_keys.Goals as goal

pub push_field-requires : goal.push_field-requires
push_field-requires c =
    let there = value_there c.args.row.now _ c.index-row-column.result (c.requires.inside c.loop-column.column-index 0 c.loop-column-test.true) c.index-row-column.is in
    record { short = field_short c.args.row.now _ _ there c.requires.short }

pub loop-column-preserved : goal.loop-column-preserved
loop-column-preserved c =
    let there : slice_get c.args.row.now (slice_index_or c.args.columns.now c.loop-column.column-index 0) ≡ Some c.index-row-column.result =
    value_there c.args.row.now _ c.index-row-column.result (c.requires.inside c.loop-column.column-index 0 c.loop-column-test.true) c.index-row-column.is in
    let more = keys_more c.args.row.now c.args.columns.now c.loop-column.column-index c.index-row-column.result c.loop-column-test.true there in
    let kept = c.loop-column.invariant in
    record {
      items = fields_more _ _ _ _ _ _ more kept.items c.in_ok-push_field.ensures.items;
      values = values_more _ _ _ more kept.values c.in_ok-push_field.ensures.value;
    }
