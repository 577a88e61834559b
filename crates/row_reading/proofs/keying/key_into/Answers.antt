use Rattle.std.proofs.Common.{◌∙◌, ◌++◌, ◌∷◌, [], ap, get_or}
use Rattle.row_codec.specs.RowBytes.{key_bytes}
use Rattle.row_reading.specs.Reading.{values_at}
use Rattle.row_reading.proofs.Columns.{key_grows}
use Rattle.row_reading.proofs.keying.key_into.Goals as goal

pub loop-column-init : goal.loop-column-init
unfolding key_bytes
loop-column-init c = c.clear.ensures.items

pub loop-column-preserved : goal.loop-column-preserved
loop-column-preserved c =
    let columns = c.args.columns.now in
    let at = c.loop-column.column-index in
    let grown = c.in_ok-push_column.ensures.ok ∙ ap (λ row. c.loop-column.key.items ++ key_bytes (get_or columns at 0 ∷ []) (values_at c.args.kinds.now row)) c.in-Some.ensures.some.0 in
    key_grows columns (values_at c.args.kinds.now c.args.row.now) at 0 c.loop-column.key.items c.push_column.new.key.items c.loop-column-test.true c.loop-column.invariant grown
