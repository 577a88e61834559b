use Rattle.std.proofs.Common.{◌≡◌, ◌≢◌, ◌+◌, ◌++◌, ℕ, List, Option, None, ◌∙◌, map, take, drop, length, rules}
use Rattle.outside.specs.Counts.{Rose}
use Rattle.outside.specs.Sinks.{StopsAt}
use Rattle.csv_edge.specs.Lines.{line_of}
use Rattle.group_rows.specs.Aggregates.{own_number}
use Rattle.group_rows.specs.Partials.{combined_numbers}
use Rattle.query_run.specs.Parts.{FrontOf, HasSent, StopsWriting}
use Rattle.query_plan.specs.declared.outcome.QueryErr.TheVariants.{SinkFault}
use Rattle.query_run.proofs.Taking.{took_row, took_stop, written_over}
use Rattle.query_run.proofs.answering.AnswerLines.take.Goals as goal

pub returns-in-Err-clause-err : goal.returns-in-Err-clause-err
returns-in-Err-clause-err g c = λ before rows taken.
    let none : c.args.self.now.stopped ≡ None = search rules in
    let front : FrontOf (g.K.Sink.contents c.args.self.now.sink.now) (g.K.Sink.contents c.push.new.sink) c.args.self.now.part.lines = search rules in
    let fault : c.in-Err.e ≡ SinkFault → Rose (g.K.Sink.faults c.args.self.now.sink.now) (g.K.Sink.faults c.push.new.sink) = search rules in
    let quiet : c.in-Err.e ≢ SinkFault → g.K.Sink.faults c.push.new.sink ≡ g.K.Sink.faults c.args.self.now.sink.now = search rules in
    let stops : StopsWriting c.in-Err.e = search rules in
    let ends : StopsAt (c.in-Err.e ≡ SinkFault) (g.K.Sink.at_failure c.args.self.now.sink.now) (g.K.Sink.at_failure c.push.new.sink) (g.K.Sink.contents c.push.new.sink) = search rules in
    took_stop before rows c.in-Err.e c.args.self.now.stopped _ _ _ _ c.args.self.now.part.lines c.push.new.self.lines _ _ none taken front fault quiet stops ends

pub returns-clause-ok : goal.returns-clause-ok
returns-clause-ok g c = λ before rows are taken.
    let none : c.args.self.now.stopped ≡ None = search rules in
    let next : c.in-Some.rows ≡ c.args.self.now.rows + 1 = search rules in
    let sends : (start : Option (List ℕ)) (text : List ℕ) → HasSent start (g.K.Sink.contents c.args.self.now.sink.now) c.args.self.now.part.lines text → HasSent start (g.K.Sink.contents c.push.new.sink) c.push.new.self.lines (text ++ line_of c.args.row.now) = search rules in
    let quiet : g.K.Sink.faults c.push.new.sink ≡ g.K.Sink.faults c.args.self.now.sink.now = search rules in
    let whole : g.K.Sink.at_failure c.push.new.sink ≡ g.K.Sink.at_failure c.args.self.now.sink.now = search rules in
    let combined : c.take_row.new.entry ≡ combined_numbers c.args.self.now.sums.items c.args.self.now.totals.items (map (λ agg. own_number agg c.args.row.now) c.args.self.now.sums.items) = search rules in
    let many : length c.take_row.new.entry ≡ c.args.self.now.totals.len = search rules in
    let entry : take c.args.self.now.totals.len (c.take_row.new.entry ++ drop (length c.take_row.new.entry) c.args.self.now.totals.items) ≡ c.take_row.new.entry = written_over _ c.take_row.new.entry _ many in
    took_row before rows c.args.row.now c.args.self.now.stopped _ _ _ _ c.args.self.now.part.lines c.push.new.self.lines c.args.self.now.rows c.in-Some.rows _ _ c.args.self.now.sums.items next none taken sends quiet whole are (entry ∙ combined)
