use Rattle.std.proofs.Common.{◌≡◌, ◌∙◌, ◌<◌, ◌≤◌, Some, length, map, refl, rules}
use Rattle.std.specs.List.{slice_get}
use Rattle.std.proofs.lemmas.Option.{slice_get_read}
use Rattle.spill_top.specs.Running.{seen}
use Rattle.spill_top.specs.Jobs.{work_of}
use Rattle.spill_top.specs.Steps.{IsCreated, IsOpen}
use Rattle.spill_top.proofs.Loops.{going_all, going_call, going_first, going_init, kept_call, went_nowhere}
use Rattle.spill_top.proofs.Places.{same_set}
use Rattle.spill_top.proofs.Unanswered.{unanswered_call, unanswered_first}
use Rattle.spill_top.proofs.Works.{went_on}
use Rattle.spill_top.proofs.run.open_all.Goals as goal

pub open-requires-clause-begun : goal.open-requires-clause-begun
open-requires-clause-begun g c κs within =
    let inside : c.loop-place.place < length c.loop-place.jobs.items = search rules in
    let at : slice_get c.loop-place.jobs.items c.loop-place.place ≡ Some c.index_mut.result.now = slice_get_read c.loop-place.jobs.items (length c.loop-place.jobs.items) c.loop-place.place c.index_mut.result.now refl inside (search rules) in
    going_first (work_of g.I.Src.Source.remaining g.I.Src.Source.faults g.K.Sink.contents g.K.Sink.faults) IsCreated IsOpen c.loop-place.place _ c.loop-place.jobs.items c.index_mut.result.now at c.loop-place.invariant.going

pub loop-place-init : goal.loop-place-init
loop-place-init g c = record {
  len = refl;
  going = going_init IsCreated IsOpen (map (work_of g.I.Src.Source.remaining g.I.Src.Source.faults g.K.Sink.contents g.K.Sink.faults) c.args.jobs.now.items) c.requires.before;
  answers = unanswered_first (map (work_of g.I.Src.Source.remaining g.I.Src.Source.faults g.K.Sink.contents g.K.Sink.faults) c.args.jobs.now.items);
  sessions = refl;
  works = λ written created writes slots start block_len are. are;
  went = λ written created writes slots. went_nowhere (seen (g.I.Inputs.bytes_at c.args.inputs.now) (g.I.Inputs.faults_at c.args.inputs.now) written created writes slots);
}

pub loop-place-preserved : goal.loop-place-preserved
loop-place-preserved g c =
    let inside : c.loop-place.place < length c.loop-place.jobs.items = search rules in
    let at : slice_get c.loop-place.jobs.items c.loop-place.place ≡ Some c.index_mut.result.now = slice_get_read c.loop-place.jobs.items (length c.loop-place.jobs.items) c.loop-place.place c.index_mut.result.now refl inside (search rules) in
    let at_query : slice_get c.args.queries.now c.loop-place.place ≡ Some c.index-queries-place.result = slice_get_read c.args.queries.now (length c.args.queries.now) c.loop-place.place c.index-queries-place.result refl c.loop-place-test.true c.index-queries-place.is in
    record {
      len = c.loop-place.invariant.len;
      going = going_call (work_of g.I.Src.Source.remaining g.I.Src.Source.faults g.K.Sink.contents g.K.Sink.faults) IsCreated IsOpen c.loop-place.place _ c.loop-place.jobs.items c.index_mut.result.now c.open.new.job at c.open.ensures.refused c.open.ensures.step c.loop-place.invariant.going;
      answers = unanswered_call (work_of g.I.Src.Source.remaining g.I.Src.Source.faults g.K.Sink.contents g.K.Sink.faults) _ c.loop-place.jobs.items c.loop-place.place c.index_mut.result.now c.open.new.job at c.open.ensures.ended c.loop-place.invariant.answers;
      sessions = same_set (λ job. job.session) c.loop-place.jobs.items c.loop-place.place c.index_mut.result.now c.open.new.job at c.open.ensures.session ∙ c.loop-place.invariant.sessions;
      works = λ written created writes slots. kept_call (work_of g.I.Src.Source.remaining g.I.Src.Source.faults g.K.Sink.contents g.K.Sink.faults) (seen (g.I.Inputs.bytes_at c.args.inputs.now) (g.I.Inputs.faults_at c.args.inputs.now) written created writes slots) (seen (g.I.Inputs.bytes_at c.loop-place.inputs) (g.I.Inputs.faults_at c.loop-place.inputs) written created writes slots) (seen (g.I.Inputs.bytes_at c.open.new.inputs) (g.I.Inputs.faults_at c.open.new.inputs) written created writes slots) c.args.queries.now _ c.loop-place.jobs.items c.loop-place.place c.index-queries-place.result c.index_mut.result.now c.open.new.job at_query at
          (c.open.ensures.went written created writes slots) (λ j q at_q apart. refl) (c.loop-place.invariant.works written created writes slots) (c.open.ensures.work written created writes slots);
      went = λ written created writes slots. went_on (seen (g.I.Inputs.bytes_at c.args.inputs.now) (g.I.Inputs.faults_at c.args.inputs.now) written created writes slots) (seen (g.I.Inputs.bytes_at c.loop-place.inputs) (g.I.Inputs.faults_at c.loop-place.inputs) written created writes slots) (seen (g.I.Inputs.bytes_at c.open.new.inputs) (g.I.Inputs.faults_at c.open.new.inputs) written created writes slots) (c.loop-place.invariant.went written created writes slots) (c.open.ensures.went written created writes slots);
    }

pub returns-clause-step : goal.returns-clause-step
returns-clause-step g c =
    let long : length c.loop-place.jobs.items ≤ c.loop-place.place = search rules in
    going_all (work_of g.I.Src.Source.remaining g.I.Src.Source.faults g.K.Sink.contents g.K.Sink.faults) IsCreated IsOpen c.loop-place.place _ c.loop-place.jobs.items long c.loop-place.invariant.going
