use Rattle.std.proofs.Common.{◌≡◌, ◌++◌, take}
use Rattle.std.specs.Prelude.{All, flat_map}
use Rattle.row_codec.specs.Row.{IsValue}
use Rattle.row_codec.specs.RowBytes.{field_bytes, values_in}
use Rattle.group_op.proofs.spelling.push_keys.Given as goal

abbrev pub invariant-loop-column : goal.invariant-loop-column
invariant-loop-column l = record {
  items : l.out.items ≡ l.fn.out.items ++ flat_map field_bytes (values_in (take l.column-index l.columns) l.row);
  values : All IsValue (values_in (take l.column-index l.columns) l.row);
}
