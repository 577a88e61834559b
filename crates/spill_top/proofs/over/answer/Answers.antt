use Rattle.std.proofs.Common.{◌≡◌, None, rules}
use Rattle.spill_top.specs.declared.ending.Ending.TheVariants.{Lines, Stopped}
use Rattle.spill_top.proofs.Answering.{goes_on, job_of, of_job, stops_unmarked, with_answer, with_stop}
use Rattle.spill_top.proofs.Runnable.{runnable}
use Rattle.spill_top.proofs.over.answer.Goals.{in-Err, in-Ok}
use Rattle.spill_top.proofs.over.answer.Goals as goal

pub run_unmarked-ran-requires-clause-plan : goal.run_unmarked-ran-requires-clause-plan
run_unmarked-ran-requires-clause-plan g c = runnable c.args.query.now c.requires.rules

pub returns : goal.returns
returns g c =
    let on : c.args.job.now.ended ≡ None = search rules in
    let is : c.args.job.now ≡ job_of c.args.job.now.refused c.in-Some-left.left c.args.job.now.right c.in-Some-sink.sink None c.in-Some.session =
    goes_on c.args.job.now c.in-Some-left.left c.in-Some-sink.sink c.in-Some.session c.in-Some-left.is c.in-Some-sink.is on c.in-Some.is in
    elim c.match-ran.branch [
      | in-Ok w ↦ of_job g.S.Source.remaining g.S.Source.faults g.K.Sink.contents g.K.Sink.faults g.St.Store.holds g.St.Store.signs c.args.query.now c.args.job.now.refused c.in-Some-left.left c.run_unmarked-ran.new.left c.args.job.now.right c.run_unmarked-ran.new.right c.in-Some-sink.sink c.run_unmarked-ran.new.sink c.in-Some.session c.run_unmarked-ran.new.store
          c.run_unmarked-ran.ensures.ran.outside.sources.1 c.run_unmarked-ran.ensures.ran.store
          c.args.job.now c.match-ran.job (Lines w.in-Ok.ran.lines) is w.job-is
          (with_answer g.S.Source.remaining g.S.Source.faults g.K.Sink.contents g.K.Sink.faults g.St.Store.holds g.St.Store.signs c.args.query.now c.args.job.now.refused c.in-Some-left.left c.run_unmarked-ran.new.left c.args.job.now.right c.run_unmarked-ran.new.right c.in-Some-sink.sink c.run_unmarked-ran.new.sink c.in-Some.session c.run_unmarked-ran.new.store
          c.run_unmarked-ran.ensures.ran.outside.sources.1 c.run_unmarked-ran.ensures.ran.store
          w.in-Ok.ran w.in-Ok.ensures.ran.outside.answer w.in-Ok.ensures.ran.outside.numbers w.in-Ok.ensures.ran.kept)
      | in-Err w ↦ of_job g.S.Source.remaining g.S.Source.faults g.K.Sink.contents g.K.Sink.faults g.St.Store.holds g.St.Store.signs c.args.query.now c.args.job.now.refused c.in-Some-left.left c.run_unmarked-ran.new.left c.args.job.now.right c.run_unmarked-ran.new.right c.in-Some-sink.sink c.run_unmarked-ran.new.sink c.in-Some.session c.run_unmarked-ran.new.store
          c.run_unmarked-ran.ensures.ran.outside.sources.1 c.run_unmarked-ran.ensures.ran.store
          c.args.job.now c.match-ran.job (Stopped w.in-Err.e) is w.job-is
          (with_stop g.S.Source.remaining g.S.Source.faults g.K.Sink.contents g.K.Sink.faults g.St.Store.holds g.St.Store.signs c.args.query.now c.args.job.now.refused c.in-Some-left.left c.run_unmarked-ran.new.left c.args.job.now.right c.run_unmarked-ran.new.right c.in-Some-sink.sink c.run_unmarked-ran.new.sink c.in-Some.session c.run_unmarked-ran.new.store
          c.run_unmarked-ran.ensures.ran.outside.sources.1 c.run_unmarked-ran.ensures.ran.store
          w.in-Err.e w.in-Err.ensures.ran.outside.input (stops_unmarked c.args.query.now _ _ _ _ w.in-Err.e w.in-Err.ensures.ran.pool w.in-Err.ensures.unmarked) (λ fault. c.run_unmarked-ran.ensures.ran.outside.sink.fault (search (rules, fault, w.in-Err.is))) w.in-Err.ensures.ran.outside.untouched w.in-Err.ensures.ran.outside.stopped)
    ]
