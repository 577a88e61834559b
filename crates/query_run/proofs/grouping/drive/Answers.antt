use Rattle.std.proofs.Common.{◌+◌, ◌*◌, length, refl}
use Rattle.partition_stack.proofs.Results.{on_err, on_ok}
use Rattle.group_op.specs.Operator.{entries_in}
use Rattle.query_run.proofs.Handed.{goes_handed}
use Rattle.query_run.proofs.Telling.{took_groups_of, took_some_of}
use Rattle.query_run.proofs.Counted.{counted_few}
use Rattle.query_run.proofs.grouping.drive.Goals as goal

pub returns-clause-ok : goal.returns-clause-ok
returns-clause-ok g c =
    on_ok c.finish-result.result (λ emitted rows holds told.
    took_groups_of c.args.op.now.shape rows g.B.Start.before _ _ _ _ _ _ _ c.requires.op.shape holds.values holds.formed c.requires.name c.requires.sums c.requires.none holds.fed holds.same (emitted holds.fed holds.holds told))
    c.finish-result.ensures.ok

pub returns-clause-err : goal.returns-clause-err
returns-clause-err g c =
    on_err c.finish-result.result (λ emitted rows holds told.
    took_some_of c.args.op.now.shape rows g.B.Start.before _ _ _ _ _ _ _ c.requires.op.shape holds.values holds.formed c.requires.name c.requires.sums c.requires.none holds.fed holds.same (emitted holds.fed holds.holds told))
    c.finish-result.ensures.err

pub returns-clause-went : goal.returns-clause-went
returns-clause-went g c = record {
  went = goes_handed c.args.op.now c.finish-result.new.self _ _ _ _ 0 0 c.finish-result.ensures.op c.finish-result.ensures.client c.finish-result.ensures.leaves;
  quiet = c.finish-result.ensures.quiet;
}

pub returns-clause-made : goal.returns-clause-made
returns-clause-made g c = λ fed holds told. counted_few (15 * length fed + length (entries_in c.args.op.now.table)) (g.St.Store.signs c.args.store.now) (g.St.Store.signs c.finish-result.new.store) (c.finish-result.ensures.made fed holds told)

pub returns-clause-enough : goal.returns-clause-enough
returns-clause-enough g c = c.finish-result.ensures.enough refl
