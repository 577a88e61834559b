use Rattle.std.proofs.Common.{subst, sym}
use Rattle.query_run.specs.Parts.{HasSent}
use Rattle.query_run.proofs.Sending.{sent_all}
use Rattle.query_run.proofs.parts.Part.make_room.Goals as goal

pub returns-clause-ok : goal.returns-clause-ok
returns-clause-ok g c = λ start text has.
    let sent = sent_all start (g.K.Sink.contents c.args.sink.now) (g.K.Sink.contents c.send.new.sink) c.args.self.now.lines text has c.in_ok-send.ensures.ok in
    subst (λ lines. HasSent start (g.K.Sink.contents c.send.new.sink) lines text) (sym c.in_ok-send.ensures.empty) sent
