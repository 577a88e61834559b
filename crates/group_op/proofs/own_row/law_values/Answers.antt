use Rattle.row_codec.specs.Row.{IsValue}
use Rattle.group_op.proofs.TakeMore.{all_more}
use Rattle.group_op.proofs.own_row.law_values.Goals as goal

pub loop-value-preserved : goal.loop-value-preserved
loop-value-preserved c =
    all_more IsValue c.args.row.now c.loop-value.value-index c.value-item.result c.loop-value-test.true c.value-item.is c.loop-value.invariant c.law_value.ensures
