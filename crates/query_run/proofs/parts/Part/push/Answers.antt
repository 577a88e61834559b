use Rattle.std.proofs.Common.{rules}
use Rattle.query_run.specs.Parts.{FrontOf}
use Rattle.query_run.proofs.Sending.{begun, front_left}
use Rattle.query_run.proofs.parts.Part.push.Goals as goal

pub returns-in_err-push-clause-front : goal.returns-in_err-push-clause-front
returns-in_err-push-clause-front g c =
    let start = g.K.Sink.contents c.args.sink.now in
    let front : FrontOf start (g.K.Sink.contents c.make_room.new.sink) c.args.self.now.lines = front_left _ _ _ _ (c.in_ok-make_room.ensures.ok start c.args.self.now.lines (begun start c.args.self.now.lines)) in
    search (rules, front)
