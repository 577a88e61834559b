use Rattle.std.proofs.Common.{refl}
use Rattle.session_calls.proofs.Loans.{loan_there}
use Rattle.session_calls.specs.declared.hand.Hand.{Hand}
use Rattle.session_calls.proofs.Knowing.{knows}
use Rattle.session_calls.proofs.Granted.{may_have, changed_hands}
use Rattle.session_calls.proofs.hand.Hand.move_buffer.Goals as goal

pub move_buffer_now-moved-requires-clause-loan : goal.move_buffer_now-moved-requires-clause-loan
move_buffer_now-moved-requires-clause-loan g c = loan_there (knows g.D.Slot g.O.Opened.opening g.O.Opened.outset c.args.self.now c.requires.ready) c.args.loan c.requires.loan

pub move_buffer_now-moved-requires-clause-to : goal.move_buffer_now-moved-requires-clause-to
move_buffer_now-moved-requires-clause-to g c =
    may_have g.D.Slot g.O.Opened.opening g.O.Opened.outset c.args.self.now c.requires.ready c.of-mine.result c.tracker-to.result c.args.to.now.tracker c.of-mine.ensures c.tracker-to.ensures c.args.loan c.requires.loan c.requires.to c.requires.room

pub returns-clause-ready : goal.returns-clause-ready
returns-clause-ready g c =
    let new : Hand g.row.D.Denot = record { state = c.move_buffer_now-moved.new.self; trail = c.enter.new.trail; counts = c.args.self.now.counts; session = c.args.self.now.session; gone = c.args.self.now.gone } in
    changed_hands g.D.Slot g.O.Opened.opening g.O.Opened.outset c.args.self.now c.requires.ready c.of-mine.result c.tracker-to.result c.args.to.now.tracker c.of-mine.ensures c.tracker-to.ensures c.args.loan
    c.number-buffer.result c.number-buffer.ensures c.requires.apart new c.move_buffer_now-moved.ensures.enters c.enter.ensures refl refl
