use Rattle.std.proofs.Common.{inl}
use Rattle.partition_stack.proofs.Results.{on_err, on_ok}
use Rattle.group_op.proofs.pouring.InletOfEmit.row.Goals as goal

pub returns-clause-ok : goal.returns-clause-ok
returns-clause-ok g c = on_ok c.take.result (λ more rows poured. more g.B.Before.was rows poured) c.take.ensures.ok

pub returns-clause-err : goal.returns-clause-err
returns-clause-err g c = on_err c.take.result (λ more rows poured. inl (more g.B.Before.was rows poured)) c.take.ensures.err
