use Rattle.std.proofs.Common.{arith}
use Rattle.group_op.proofs.RowForms.{partial_is_one}
use Rattle.group_op.proofs.flushing.send.Goals as goal

pub overflow_add-at : goal.overflow_add-at
overflow_add-at g c = let low = c.requires.fan.low in omega (arith, low)

pub append-requires-clause-row : goal.append-requires-clause-row
append-requires-clause-row g c = partial_is_one c.args._shape.now c.args.row.now c.requires.row
