use Rattle.std.proofs.Common.{◌≡◌, ◌++◌, map, take}
use Rattle.std.specs.Prelude.{All, flat_map}
use Rattle.row_codec.specs.declared.values.Value.TheVariants.{Wide}
use Rattle.row_codec.specs.Row.{IsValue}
use Rattle.row_codec.specs.RowBytes.{field_bytes}
use Rattle.group_rows.specs.Aggregates.{own_number}
use Rattle.group_op.proofs.spelling.push_numbers.Given as goal

abbrev pub invariant-loop-agg : goal.invariant-loop-agg
invariant-loop-agg l = record {
  items : l.out.items ≡ l.fn.out.items ++ flat_map field_bytes (map (λ agg. Wide (own_number agg l.row)) (take l.agg-index l.aggs));
  values : All IsValue (map (λ agg. Wide (own_number agg l.row)) (take l.agg-index l.aggs));
}
