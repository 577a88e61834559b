use Rattle.std.proofs.Common.{◌≡◌, Err, inl, ◌∙◌, ◌+◌, ◌*◌, true, length, pos, replicate, ap, sym, refl, arith, rules}
use Rattle.outside.specs.Sinks.{StopsAt}
use Rattle.query_plan.specs.declared.outcome.QueryErr.TheVariants.{SinkFault}
use Rattle.tuple_stream.specs.Families.{slots_in}
use Rattle.partition_stack.specs.Slots.{IsWantBelow}
use Rattle.partition_stack.specs.Stack.{over}
use Rattle.partition_stack.proofs.Making.{few_less, few_none}
use Rattle.group_op.specs.Operator.{Holds, entries_in, slots_for}
use Rattle.query_run.specs.Causes.{OfPool}
use Rattle.query_run.specs.Ending.{IsEndedBy}
use Rattle.store_api.specs.declared.shapes.Shape.{Shape}
use Rattle.partition_stack.proofs.Results.{any_err, on_err, on_ok}
use Rattle.query_run.specs.Answer.{answer_text, group_rows}
use Rattle.query_run.specs.Inside.{OfFedTold}
use Rattle.query_run.specs.Plans.{grouping_of}
use Rattle.outside.proofs.Stopping.{stops_later}
use Rattle.query_run.proofs.Ended.{all_handed, ended_stops, none_failed, not_stopped, numbers_are, some_anyhow, stopped_front, stops_as, took_none, unsent_front, untouched, whole_answer}
use Rattle.query_run.proofs.Wants.{ended_wants}
use Rattle.query_run.proofs.Whole.{grouped}
use Rattle.query_run.proofs.grouping.write_groups.Goals as goal

pub returns-in_err-part-clause-err : goal.returns-in_err-part-clause-err
returns-in_err-part-clause-err g c =
    any_err c.from_residual.result (λ rows holds told. untouched (g.K.Sink.contents c.args.sink.now) (answer_text c.args.plan.now (group_rows (grouping_of c.args.plan.now) rows)))

pub drive-handed-requires-clause-none : goal.drive-handed-requires-clause-none
drive-handed-requires-clause-none g c =
    took_none _ _ c.in_ok-part.part.lines c.in_ok-part.totals.items (length c.args.op.now.shape.keys) (length c.args.op.now.shape.aggs)
    (c.in_ok-part.ensures.totals ∙ ap (λ (s : Shape). replicate (length s.aggs) (pos 0)) (sym c.requires.shape))

pub returns-in_err-went_through-clause-err : goal.returns-in_err-went_through-clause-err
returns-in_err-went_through-clause-err g c =
    any_err c.from_residual-in_err-went_through.result (λ rows holds told.
    stopped_front c.args.plan.now c.args.op.now.shape _ rows _ (g.K.Sink.contents c.drive-handed.result.1.sink.now) _ _ _ _ c.requires.shape c.in_ok-part.ensures.part _ (search rules)
    (some_anyhow _ rows c.args.op.now.shape _ _ _ _ _ _ c.drive-handed.result.0
    (on_ok c.drive-handed.result.0 (λ all. all rows holds told) c.drive-handed.ensures.ok)
    (on_err c.drive-handed.result.0 (λ some. some rows holds told) c.drive-handed.ensures.err)))

pub returns-in_err-send-clause-err : goal.returns-in_err-send-clause-err
returns-in_err-send-clause-err g c =
    any_err c.from_residual-in_err-send.result (λ rows holds told.
    unsent_front c.args.plan.now c.args.op.now.shape _ rows c.drive-handed.result.1.stopped (g.K.Sink.contents c.drive-handed.result.1.sink.now) _ _ _ _ c.requires.shape c.in_ok-part.ensures.part
    (g.K.Sink.contents c.send.new.sink) _ (not_stopped c.drive-handed.result.1.stopped c.drive-handed.result.0 c.in_ok-went_through.ensures.ok) (search rules)
    (all_handed c.drive-handed.result.1.stopped c.drive-handed.result.0 c.in_ok-went_through.ensures.ok (on_ok c.drive-handed.result.0 (λ all. all rows holds told) c.drive-handed.ensures.ok))
    c.in_err-send.ensures.front)

pub returns-clause-ok : goal.returns-clause-ok
returns-clause-ok g c = λ rows holds told.
    whole_answer c.args.plan.now c.args.op.now.shape _ rows c.drive-handed.result.1.stopped (g.K.Sink.contents c.drive-handed.result.1.sink.now) _ _ _ _ c.requires.shape c.in_ok-part.ensures.part
    (g.K.Sink.contents c.send.new.sink) _ (not_stopped c.drive-handed.result.1.stopped c.drive-handed.result.0 c.in_ok-went_through.ensures.ok) (search rules)
    (all_handed c.drive-handed.result.1.stopped c.drive-handed.result.0 c.in_ok-went_through.ensures.ok (on_ok c.drive-handed.result.0 (λ all. all rows holds told) c.drive-handed.ensures.ok))
    c.in_ok-send.ensures.ok

pub returns-clause-lines : goal.returns-clause-lines
returns-clause-lines g c = λ rows holds told.
    numbers_are c.args.plan.now c.args.op.now.shape _ rows c.drive-handed.result.1.stopped _ _ _ c.drive-handed.result.1.totals.items _ (grouped c.args.plan.now c.requires.plan) c.requires.shape refl c.of.ensures
    (all_handed c.drive-handed.result.1.stopped c.drive-handed.result.0 c.in_ok-went_through.ensures.ok (on_ok c.drive-handed.result.0 (λ all. all rows holds told) c.drive-handed.ensures.ok))

pub returns-in_err-part-clause-made : goal.returns-in_err-part-clause-made
returns-in_err-part-clause-made g c = λ fed holds told. few_less 0 (15 * length fed + length (entries_in c.args.op.now.table)) (g.St.Store.signs c.args.store.now) (g.St.Store.signs c.args.store.now) (omega arith) (few_none (g.St.Store.signs c.args.store.now))

pub returns-in_err-went_through-clause-enough : goal.returns-in_err-went_through-clause-enough
returns-in_err-went_through-clause-enough g c =
    let e = c.in_err-went_through.field-0.0 in
    let op = c.args.op.now in
    let h = g.St.Store.holds c.args.store.now in
    let s = g.St.Store.signs c.args.store.now in
    let total = slots_in (over op.parts h s) in
    let ended : IsEndedBy c.drive-handed.result.1.stopped c.drive-handed.result.0 e = search rules in
    let all : OfPool (λ why. OfFedTold g.St.Store op c.args.store.now (λ fed. IsWantBelow (slots_for 544 op h fed) total why)) e =
    ended_wants (λ fed. Holds fed op h s) (h.told ≡ true) (slots_for 544 op h) total _ _ _ _ c.drive-handed.result.1.stopped _ _ _ c.drive-handed.result.0 e c.drive-handed.ensures.enough c.drive-handed.ensures.any.1 ended in
    search (rules, all)

pub returns-in_err-went_through-clause-stops : goal.returns-in_err-went_through-clause-stops
returns-in_err-went_through-clause-stops g c =
    let e = c.in_err-went_through.field-0.0 in
    let ended : IsEndedBy c.drive-handed.result.1.stopped c.drive-handed.result.0 e = search rules in
    let here : StopsAt (c.from_residual-in_err-went_through.result ≡ Err SinkFault) (g.K.Sink.at_failure c.args.sink.now) (g.K.Sink.at_failure c.drive-handed.result.1.sink.now) (g.K.Sink.contents c.drive-handed.result.1.sink.now) =
    stops_as c.from_residual-in_err-went_through.result e _ _ _ (search rules) (ended_stops _ _ c.drive-handed.result.1.stopped _ _ _ _ _ c.drive-handed.result.0 e c.drive-handed.ensures.any.1 ended) in
    search (rules, here)

pub returns-in_err-send-clause-stops : goal.returns-in_err-send-clause-stops
returns-in_err-send-clause-stops g c =
    let none = not_stopped c.drive-handed.result.1.stopped c.drive-handed.result.0 c.in_ok-went_through.ensures.ok in
    let here : StopsAt (c.from_residual-in_err-send.result ≡ Err SinkFault) (g.K.Sink.at_failure c.args.sink.now) (g.K.Sink.at_failure c.send.new.sink) (g.K.Sink.contents c.send.new.sink) =
    stops_as c.from_residual-in_err-send.result c.in_err-send.field-0.0 _ _ _ (search rules)
    (stops_later _ _ _ _ _ (none_failed _ _ c.drive-handed.result.1.stopped _ _ _ _ _ none c.drive-handed.ensures.any.1) c.in_err-send.ensures.stops) in
    search (rules, here)

pub returns-clause-stops : goal.returns-clause-stops
returns-clause-stops g c =
    let none = not_stopped c.drive-handed.result.1.stopped c.drive-handed.result.0 c.in_ok-went_through.ensures.ok in
    let same : g.K.Sink.at_failure c.send.new.sink ≡ g.K.Sink.at_failure c.args.sink.now = c.in_ok-send.ensures.unbroken ∙ none_failed _ _ c.drive-handed.result.1.stopped _ _ _ _ _ none c.drive-handed.ensures.any.1 in
    inl (search (rules, same))
