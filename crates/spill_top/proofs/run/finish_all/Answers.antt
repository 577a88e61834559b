use Rattle.std.proofs.Common.{◌≡◌, ◌∙◌, ◌<◌, ◌≤◌, Some, None, length, map, refl, rules}
use Rattle.std.specs.List.{slice_get}
use Rattle.std.proofs.lemmas.Option.{slice_get_read}
use Rattle.spill_top.specs.Running.{seen}
use Rattle.spill_top.specs.Jobs.{work_of}
use Rattle.spill_top.specs.Steps.{IsDone, IsRead}
use Rattle.spill_top.proofs.Loops.{going_all, going_call, going_first, going_init, kept_call, went_nowhere}
use Rattle.spill_top.proofs.Made.{made_at, made_call}
use Rattle.spill_top.proofs.Places.{same_set}
use Rattle.spill_top.proofs.Unanswered.{unanswered_call, unanswered_first}
use Rattle.spill_top.proofs.Works.{went_on}
use Rattle.spill_top.proofs.run.finish_all.Goals as goal

pub finish-requires-clause-begun : goal.finish-requires-clause-begun
finish-requires-clause-begun g c κs within =
    let inside : c.loop-place.place < length c.loop-place.jobs.items = search rules in
    let at : slice_get c.loop-place.jobs.items c.loop-place.place ≡ Some c.index_mut.result.now = slice_get_read c.loop-place.jobs.items (length c.loop-place.jobs.items) c.loop-place.place c.index_mut.result.now refl inside (search rules) in
    going_first (work_of g.S.Source.remaining g.S.Source.faults g.O.Snk.Sink.contents g.O.Snk.Sink.faults) IsRead IsDone c.loop-place.place _ c.loop-place.jobs.items c.index_mut.result.now at c.loop-place.invariant.going

pub finish-requires-clause-created : goal.finish-requires-clause-created
finish-requires-clause-created g c κs within = λ some.
    let inside : c.loop-place.place < length c.loop-place.jobs.items = search rules in
    let at : slice_get c.loop-place.jobs.items c.loop-place.place ≡ Some c.index_mut.result.now = slice_get_read c.loop-place.jobs.items (length c.loop-place.jobs.items) c.loop-place.place c.index_mut.result.now refl inside (search rules) in
    let at_query : slice_get c.args.queries.now c.loop-place.place ≡ Some c.index-queries-place.result = slice_get_read c.args.queries.now (length c.args.queries.now) c.loop-place.place c.index-queries-place.result refl c.loop-place-test.true c.index-queries-place.is in
    made_at g.S.Source.remaining g.S.Source.faults g.O.Snk.Sink.contents g.O.Snk.Sink.faults (g.O.Outputs.is_created c.loop-place.outputs) c.args.queries.now c.loop-place.jobs.items c.loop-place.place c.index-queries-place.result c.index_mut.result.now at_query at c.loop-place.invariant.made some

pub loop-place-init : goal.loop-place-init
loop-place-init g c = record {
  len = refl;
  going = going_init IsRead IsDone (map (work_of g.S.Source.remaining g.S.Source.faults g.O.Snk.Sink.contents g.O.Snk.Sink.faults) c.args.jobs.now.items) c.requires.before;
  made = c.requires.created;
  answers = unanswered_first (map (work_of g.S.Source.remaining g.S.Source.faults g.O.Snk.Sink.contents g.O.Snk.Sink.faults) c.args.jobs.now.items);
  sessions = refl;
  works = λ files reads slots start block_len are. are;
  went = λ files reads slots. went_nowhere (seen files reads (g.O.Outputs.written c.args.outputs.now) (g.O.Outputs.is_created c.args.outputs.now) (g.O.Outputs.faults_at c.args.outputs.now) slots);
}

pub loop-place-preserved : goal.loop-place-preserved
loop-place-preserved g c =
    let inside : c.loop-place.place < length c.loop-place.jobs.items = search rules in
    let at : slice_get c.loop-place.jobs.items c.loop-place.place ≡ Some c.index_mut.result.now = slice_get_read c.loop-place.jobs.items (length c.loop-place.jobs.items) c.loop-place.place c.index_mut.result.now refl inside (search rules) in
    let at_query : slice_get c.args.queries.now c.loop-place.place ≡ Some c.index-queries-place.result = slice_get_read c.args.queries.now (length c.args.queries.now) c.loop-place.place c.index-queries-place.result refl c.loop-place-test.true c.index-queries-place.is in
    record {
      len = c.loop-place.invariant.len;
      going = going_call (work_of g.S.Source.remaining g.S.Source.faults g.O.Snk.Sink.contents g.O.Snk.Sink.faults) IsRead IsDone c.loop-place.place _ c.loop-place.jobs.items c.index_mut.result.now c.finish.new.job at c.finish.ensures.refused c.finish.ensures.step c.loop-place.invariant.going;
      made = made_call g.S.Source.remaining g.S.Source.faults g.O.Snk.Sink.contents g.O.Snk.Sink.faults (g.O.Outputs.is_created c.loop-place.outputs) (g.O.Outputs.is_created c.finish.new.outputs) c.args.queries.now c.loop-place.jobs.items c.loop-place.place c.finish.new.job
          ((c.finish.ensures.went (λ name. None) (λ name. 0) (record { faults = 0; stuck = 0; stores = 0; uncounted = 0; strays = 0; unstrayed = 0; silent = 0; slots = 0 })).went.created) c.finish.ensures.step.3 c.loop-place.invariant.made;
      answers = unanswered_call (work_of g.S.Source.remaining g.S.Source.faults g.O.Snk.Sink.contents g.O.Snk.Sink.faults) _ c.loop-place.jobs.items c.loop-place.place c.index_mut.result.now c.finish.new.job at c.finish.ensures.ended c.loop-place.invariant.answers;
      sessions = same_set (λ job. job.session) c.loop-place.jobs.items c.loop-place.place c.index_mut.result.now c.finish.new.job at c.finish.ensures.session ∙ c.loop-place.invariant.sessions;
      works = λ files reads slots. kept_call (work_of g.S.Source.remaining g.S.Source.faults g.O.Snk.Sink.contents g.O.Snk.Sink.faults) (seen files reads (g.O.Outputs.written c.args.outputs.now) (g.O.Outputs.is_created c.args.outputs.now) (g.O.Outputs.faults_at c.args.outputs.now) slots) (seen files reads (g.O.Outputs.written c.loop-place.outputs) (g.O.Outputs.is_created c.loop-place.outputs) (g.O.Outputs.faults_at c.loop-place.outputs) slots) (seen files reads (g.O.Outputs.written c.finish.new.outputs) (g.O.Outputs.is_created c.finish.new.outputs) (g.O.Outputs.faults_at c.finish.new.outputs) slots) c.args.queries.now _ c.loop-place.jobs.items c.loop-place.place c.index-queries-place.result c.index_mut.result.now c.finish.new.job at_query at
          ((c.finish.ensures.went files reads slots).went) (λ j q at_q apart. (c.finish.ensures.went files reads slots).others q.output (λ same. apart (c.requires.apart j c.loop-place.place q c.index-queries-place.result at_q at_query same))) (c.loop-place.invariant.works files reads slots) (c.finish.ensures.work files reads slots);
      went = λ files reads slots. went_on (seen files reads (g.O.Outputs.written c.args.outputs.now) (g.O.Outputs.is_created c.args.outputs.now) (g.O.Outputs.faults_at c.args.outputs.now) slots) (seen files reads (g.O.Outputs.written c.loop-place.outputs) (g.O.Outputs.is_created c.loop-place.outputs) (g.O.Outputs.faults_at c.loop-place.outputs) slots) (seen files reads (g.O.Outputs.written c.finish.new.outputs) (g.O.Outputs.is_created c.finish.new.outputs) (g.O.Outputs.faults_at c.finish.new.outputs) slots) (c.loop-place.invariant.went files reads slots) ((c.finish.ensures.went files reads slots).went);
    }

pub returns-clause-step : goal.returns-clause-step
returns-clause-step g c =
    let long : length c.loop-place.jobs.items ≤ c.loop-place.place = search rules in
    going_all (work_of g.S.Source.remaining g.S.Source.faults g.O.Snk.Sink.contents g.O.Snk.Sink.faults) IsRead IsDone c.loop-place.place _ c.loop-place.jobs.items long c.loop-place.invariant.going
