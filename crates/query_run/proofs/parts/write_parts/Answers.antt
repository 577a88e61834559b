use Rattle.std.proofs.Common.{◌≡◌, ◌∙◌, ◌++◌, rules, sym}
use Rattle.std.proofs.lemmas.List.{take-append-drop}
use Rattle.outside.specs.Sinks.{EndsAt}
use Rattle.outside.proofs.Stopping.{ends_later}
use Rattle.query_run.specs.Parts.{FrontOf}
use Rattle.query_run.proofs.Sending.{front_within, sent_on}
use Rattle.query_run.proofs.parts.write_parts.Goals as goal

pub returns-in_err-write_whole-clause-err : goal.returns-in_err-write_whole-clause-err
returns-in_err-write_whole-clause-err g c =
    let split : c.loop-left.left.now ≡ c.split_at.result.0.now ++ c.split_at.result.1.now = rw (c.split_at.ensures.front, c.split_at.ensures.back) (sym (take-append-drop _ c.loop-left.left.now)) in
    let front : FrontOf (g.K.Sink.contents c.args.sink.now) (g.K.Sink.contents c.write_whole.new.sink) c.args.text.now = front_within _ _ _ c.loop-left.left.now _ _ _ c.loop-left.invariant.0 c.in_err-write_whole.ensures.err split in
    search (rules, front)

pub loop-left-preserved : goal.loop-left-preserved
loop-left-preserved g c =
    let split : c.loop-left.left.now ≡ c.split_at.result.0.now ++ c.split_at.result.1.now = rw (c.split_at.ensures.front, c.split_at.ensures.back) (sym (take-append-drop _ c.loop-left.left.now)) in
    (sent_on _ _ _ c.loop-left.left.now _ _ _ c.loop-left.invariant.0 c.in_ok-write_whole.ensures.ok split, c.in_ok-write_whole.ensures.quiet ∙ c.loop-left.invariant.1, c.in_ok-write_whole.ensures.unbroken ∙ c.loop-left.invariant.2)

pub returns-in_err-write_whole-clause-stops : goal.returns-in_err-write_whole-clause-stops
returns-in_err-write_whole-clause-stops g c =
    let ends : EndsAt (g.K.Sink.at_failure c.args.sink.now) (g.K.Sink.at_failure c.write_whole.new.sink) (g.K.Sink.contents c.write_whole.new.sink) = ends_later _ _ _ _ c.loop-left.invariant.2 c.in_err-write_whole.ensures.stops in
    search (rules, ends)
