use Rattle.std.proofs.Common.{arith}
use Rattle.query_run.proofs.Summing.{sums_next}
use Rattle.query_run.proofs.grouping.sums_of.Goals as goal

pub loop-column-preserved : goal.loop-column-preserved
loop-column-preserved c =
    let above = c.loop-column.invariant.0 in
    (omega (arith, above), sums_next c.args.keys c.loop-column.column c.loop-column.sums.items c.push.new.self.items above c.loop-column.invariant.1 c.in_ok-push.ensures.items)
