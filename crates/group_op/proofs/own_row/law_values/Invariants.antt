use Rattle.std.proofs.Common.{take}
use Rattle.std.specs.Prelude.{All}
use Rattle.row_codec.specs.Row.{IsValue}
use Rattle.group_op.proofs.own_row.law_values.Given as goal

abbrev pub invariant-loop-value : goal.invariant-loop-value
invariant-loop-value l = All IsValue (take l.value-index l.row)
