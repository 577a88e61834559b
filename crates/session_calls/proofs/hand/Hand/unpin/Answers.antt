use Rattle.std.proofs.Common.{rules}
use Rattle.session_calls.proofs.Pages.{last_pin, is_there}
use Rattle.session_calls.proofs.Knowing.{knows}
use Rattle.session_calls.proofs.Left.{left_ready, left_refused, left_full}
use Rattle.session_calls.proofs.hand.Hand.unpin.Goals as goal

pub leave-requires-clause-last : goal.leave-requires-clause-last
leave-requires-clause-last g c = last_pin (knows g.D.Slot g.O.Opened.opening g.O.Opened.outset c.args.self.now c.requires.ready) c.args.p.now c.requires.page c.args.buf c.requires.pinned c.requires.buffer

pub leave-requires-clause-whose : goal.leave-requires-clause-whose
leave-requires-clause-whose g c = (is_there (knows g.D.Slot g.O.Opened.opening g.O.Opened.outset c.args.self.now c.requires.ready) c.args.p.now c.requires.page).whose

pub returns-clause-unpins : goal.returns-clause-unpins
returns-clause-unpins g c = record {
  ok = search rules;
  refused = left_refused g.D.Slot g.O.Opened.opening g.O.Opened.outset c.args.self.now c.leave.new.hand c.requires.ready c.args.p.now c.requires.page c.requires.pinned c.leave.result c.leave.ensures.refused;
  err = search rules;
  cause = left_full g.D.Slot g.O.Opened.opening g.O.Opened.outset c.args.self.now c.leave.new.hand c.requires.ready c.args.p.now c.requires.page c.requires.pinned c.leave.result c.leave.ensures.cause;
  back = search rules;
}

pub returns-clause-ready : goal.returns-clause-ready
returns-clause-ready g c =
    left_ready g.D.Slot g.O.Opened.opening g.O.Opened.outset c.args.self.now c.leave.new.hand c.requires.ready c.args.p.now c.requires.page c.requires.pinned c.args.buf.bytes
    c.leave.result c.leave.ensures.ok c.leave.ensures.err
