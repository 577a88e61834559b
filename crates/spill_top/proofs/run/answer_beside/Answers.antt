use Rattle.std.proofs.Common.{◌<◌, arith, length, refl, rules}
use mir.Syntax.{of_param}
use denote.Param.Send.{Quiet-if}
use Rattle.std.proofs.lemmas.Option.{slice_get_read, slice_get_within}
use Rattle.spill_top.specs.Together.{IsAnswered}
use Rattle.spill_top.proofs.Answering.{at_place}
use Rattle.spill_top.proofs.run.answer_beside.Goals as goal

pub each_beside_writers-requires-clause-each : goal.each_beside_writers-requires-clause-each
each_beside_writers-requires-clause-each g c κs within = λ place job less is. (
  (omega (arith, c.requires.len, less), c.requires.few, λ query at. c.requires.can place query job.now at (slice_get_read c.args.jobs.now (length c.args.jobs.now) place job.now refl less is)),
  (
    record { owned = c.type_bounds.send-S.owned; leaving = λ keeps. Quiet-if (keeps (of_param 0)) _ _ (λ x w. tt) (λ x w. tt) },
    record { owned = c.type_bounds.send-K.owned; leaving = λ keeps. Quiet-if (keeps (of_param 1)) _ _ (λ x w. tt) (λ x w. tt) },
    record { owned = c.type_bounds.send-St.owned; leaving = λ keeps. Quiet-if (keeps (of_param 2)) _ _ (λ x w. tt) (λ x w. tt) },
    search rules,
  ),
)

pub returns-clause-each : goal.returns-clause-each
returns-clause-each g c = λ place query old new at was now.
    let less : place < length c.args.jobs.now = slice_get_within c.args.jobs.now place old was in
    let changed = (c.each_beside_writers.ensures.each place old less).1 in
    at_place (IsAnswered g.S.Source.remaining g.S.Source.faults g.K.Sink.contents g.K.Sink.faults g.St.Store.holds g.St.Store.signs query) c.args.jobs.now c.each_beside_writers.new.jobs place old new changed.argument.now changed.after_call.now was now
    changed.argument_is changed.left (changed.call query at)
