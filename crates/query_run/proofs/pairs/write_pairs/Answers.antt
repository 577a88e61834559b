use Rattle.std.proofs.Common.{◌≡◌, Err, ◌∙◌, inl, ◌+◌, ◌*◌, true, length, refl, arith, rules}
use Rattle.outside.specs.Sinks.{StopsAt}
use Rattle.query_plan.specs.declared.outcome.QueryErr.TheVariants.{SinkFault}
use Rattle.partition_stack.specs.Slots.{IsWantBelow}
use Rattle.partition_stack.proofs.Making.{few_less, few_none}
use Rattle.partition_stack.proofs.Results.{any_err, on_err, on_ok}
use Rattle.join_op.specs.Operator.{Keeps, slots_for}
use Rattle.join_op.specs.Pairs.{pairs_of}
use Rattle.csv_edge.specs.Lines.{line_of}
use Rattle.query_run.specs.Answer.{answer_text, header_of}
use Rattle.query_run.specs.Causes.{OfPool}
use Rattle.query_run.specs.Ending.{IsEndedBy}
use Rattle.query_run.specs.Inside.{OfSidesTold}
use Rattle.query_run.specs.Taking.{join_slots}
use Rattle.outside.proofs.Stopping.{stops_later}
use Rattle.query_run.proofs.Ended.{all_handed, ended_stops, none_failed, not_stopped, stops_as, took_none, untouched}
use Rattle.query_run.proofs.JoinWants.{ended_pairs}
use Rattle.query_run.proofs.Pairing.{no_pairs, pair_numbers, some_pairs, stopped_pairs, unsent_pairs, whole_pairs}
use Rattle.query_run.proofs.pairs.write_pairs.Goals as goal

pub returns-in_err-names-clause-err : goal.returns-in_err-names-clause-err
returns-in_err-names-clause-err g c =
    any_err c.from_residual.result (λ start lefts rights keeps told.
    no_pairs c.args.plan.now _ (g.K.Sink.contents c.args.sink.now) (untouched (g.K.Sink.contents c.args.sink.now) (answer_text c.args.plan.now (pairs_of c.args.op.now.shape lefts rights))))

pub returns-in_err-part-clause-err : goal.returns-in_err-part-clause-err
returns-in_err-part-clause-err g c =
    any_err c.from_residual-in_err-part.result (λ start lefts rights keeps told.
    no_pairs c.args.plan.now _ (g.K.Sink.contents c.args.sink.now) (untouched (g.K.Sink.contents c.args.sink.now) (answer_text c.args.plan.now (pairs_of c.args.op.now.shape lefts rights))))

pub drive_pairs-handed-requires-clause-none : goal.drive_pairs-handed-requires-clause-none
drive_pairs-handed-requires-clause-none g c = took_none _ _ c.in_ok-part.part.lines _ 0 0 (search rules)

pub returns-in_err-went_through-clause-err : goal.returns-in_err-went_through-clause-err
returns-in_err-went_through-clause-err g c =
    let names : c.in_ok-part.part.lines ≡ line_of (header_of c.args.plan.now) = search rules in
    any_err c.from_residual-in_err-went_through.result (λ start lefts rights keeps told.
    stopped_pairs (pairs_of c.args.op.now.shape lefts rights) _ _ (g.K.Sink.contents c.drive_pairs-handed.result.1.sink.now) _ _ _ _ c.args.plan.now _ names (search rules)
    (some_pairs (pairs_of c.args.op.now.shape lefts rights) _ _ _ _ _ _ _ c.drive_pairs-handed.result.0
    (on_ok c.drive_pairs-handed.result.0 (λ all. all start lefts rights keeps told) c.drive_pairs-handed.ensures.ok)
    (on_err c.drive_pairs-handed.result.0 (λ some. some start lefts rights keeps told) c.drive_pairs-handed.ensures.err)))

pub returns-in_err-send-clause-err : goal.returns-in_err-send-clause-err
returns-in_err-send-clause-err g c =
    let names : c.in_ok-part.part.lines ≡ line_of (header_of c.args.plan.now) = search rules in
    any_err c.from_residual-in_err-send.result (λ start lefts rights keeps told.
    unsent_pairs (pairs_of c.args.op.now.shape lefts rights) _ c.drive_pairs-handed.result.1.stopped (g.K.Sink.contents c.drive_pairs-handed.result.1.sink.now) _ _ _ _ c.args.plan.now _ names
    (g.K.Sink.contents c.send.new.sink) (not_stopped c.drive_pairs-handed.result.1.stopped c.drive_pairs-handed.result.0 c.in_ok-went_through.ensures.ok) (search rules)
    (all_handed c.drive_pairs-handed.result.1.stopped c.drive_pairs-handed.result.0 c.in_ok-went_through.ensures.ok (on_ok c.drive_pairs-handed.result.0 (λ all. all start lefts rights keeps told) c.drive_pairs-handed.ensures.ok))
    c.in_err-send.ensures.front)

pub returns-clause-ok : goal.returns-clause-ok
returns-clause-ok g c = λ start lefts rights keeps told.
    let names : c.in_ok-part.part.lines ≡ line_of (header_of c.args.plan.now) = search rules in
    whole_pairs (pairs_of c.args.op.now.shape lefts rights) _ c.drive_pairs-handed.result.1.stopped (g.K.Sink.contents c.drive_pairs-handed.result.1.sink.now) _ _ _ _ c.args.plan.now _ names
    (g.K.Sink.contents c.send.new.sink) (not_stopped c.drive_pairs-handed.result.1.stopped c.drive_pairs-handed.result.0 c.in_ok-went_through.ensures.ok) (search rules)
    (all_handed c.drive_pairs-handed.result.1.stopped c.drive_pairs-handed.result.0 c.in_ok-went_through.ensures.ok (on_ok c.drive_pairs-handed.result.0 (λ all. all start lefts rights keeps told) c.drive_pairs-handed.ensures.ok))
    c.in_ok-send.ensures.ok

pub returns-clause-lines : goal.returns-clause-lines
returns-clause-lines g c = λ start lefts rights keeps told.
    pair_numbers c.args.plan.now (pairs_of c.args.op.now.shape lefts rights) _ c.drive_pairs-handed.result.1.stopped _ _ _ c.drive_pairs-handed.result.1.totals.items _ c.requires.groups c.requires.aggs refl c.of.ensures
    (all_handed c.drive_pairs-handed.result.1.stopped c.drive_pairs-handed.result.0 c.in_ok-went_through.ensures.ok (on_ok c.drive_pairs-handed.result.0 (λ all. all start lefts rights keeps told) c.drive_pairs-handed.ensures.ok))

pub returns-in_err-names-clause-made : goal.returns-in_err-names-clause-made
returns-in_err-names-clause-made g c = λ start lefts rights keeps told. few_less 0 (15 * (length lefts + length rights)) (g.St.Store.signs c.args.store.now) (g.St.Store.signs c.args.store.now) (omega arith) (few_none (g.St.Store.signs c.args.store.now))

pub returns-in_err-part-clause-made : goal.returns-in_err-part-clause-made
returns-in_err-part-clause-made g c = λ start lefts rights keeps told. few_less 0 (15 * (length lefts + length rights)) (g.St.Store.signs c.args.store.now) (g.St.Store.signs c.args.store.now) (omega arith) (few_none (g.St.Store.signs c.args.store.now))

pub returns-in_err-went_through-clause-enough : goal.returns-in_err-went_through-clause-enough
returns-in_err-went_through-clause-enough g c =
    let e = c.in_err-went_through.field-0.0 in
    let op = c.args.op.now in
    let h = g.St.Store.holds c.args.store.now in
    let s = g.St.Store.signs c.args.store.now in
    let total = join_slots op h s in
    let ended : IsEndedBy c.drive_pairs-handed.result.1.stopped c.drive_pairs-handed.result.0 e = search rules in
    let all : OfPool (λ why. OfSidesTold g.St.Store op c.args.store.now (λ lefts rights. IsWantBelow (slots_for op h lefts rights) total why)) e =
    ended_pairs (λ start lefts rights. Keeps start lefts rights op h s) (h.told ≡ true) (slots_for op h) total _ _ _ _ c.drive_pairs-handed.result.1.stopped _ _ _ c.drive_pairs-handed.result.0 e c.drive_pairs-handed.ensures.enough c.drive_pairs-handed.ensures.any.1 ended in
    search (rules, all)

pub returns-in_err-went_through-clause-stops : goal.returns-in_err-went_through-clause-stops
returns-in_err-went_through-clause-stops g c =
    let e = c.in_err-went_through.field-0.0 in
    let ended : IsEndedBy c.drive_pairs-handed.result.1.stopped c.drive_pairs-handed.result.0 e = search rules in
    let here : StopsAt (c.from_residual-in_err-went_through.result ≡ Err SinkFault) (g.K.Sink.at_failure c.args.sink.now) (g.K.Sink.at_failure c.drive_pairs-handed.result.1.sink.now) (g.K.Sink.contents c.drive_pairs-handed.result.1.sink.now) =
    stops_as c.from_residual-in_err-went_through.result e _ _ _ (search rules) (ended_stops _ _ c.drive_pairs-handed.result.1.stopped _ _ _ _ _ c.drive_pairs-handed.result.0 e c.drive_pairs-handed.ensures.any.1 ended) in
    search (rules, here)

pub returns-in_err-send-clause-stops : goal.returns-in_err-send-clause-stops
returns-in_err-send-clause-stops g c =
    let none = not_stopped c.drive_pairs-handed.result.1.stopped c.drive_pairs-handed.result.0 c.in_ok-went_through.ensures.ok in
    let here : StopsAt (c.from_residual-in_err-send.result ≡ Err SinkFault) (g.K.Sink.at_failure c.args.sink.now) (g.K.Sink.at_failure c.send.new.sink) (g.K.Sink.contents c.send.new.sink) =
    stops_as c.from_residual-in_err-send.result c.in_err-send.field-0.0 _ _ _ (search rules)
    (stops_later _ _ _ _ _ (none_failed _ _ c.drive_pairs-handed.result.1.stopped _ _ _ _ _ none c.drive_pairs-handed.ensures.any.1) c.in_err-send.ensures.stops) in
    search (rules, here)

pub returns-clause-stops : goal.returns-clause-stops
returns-clause-stops g c =
    let none = not_stopped c.drive_pairs-handed.result.1.stopped c.drive_pairs-handed.result.0 c.in_ok-went_through.ensures.ok in
    let same : g.K.Sink.at_failure c.send.new.sink ≡ g.K.Sink.at_failure c.args.sink.now = c.in_ok-send.ensures.unbroken ∙ none_failed _ _ c.drive_pairs-handed.result.1.stopped _ _ _ _ _ none c.drive_pairs-handed.ensures.any.1 in
    inl (search (rules, same))
