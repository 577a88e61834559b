use Rattle.std.proofs.Common.{refl}
use Rattle.session_calls.specs.declared.hand.Hand.{Hand}
use Rattle.session_calls.proofs.Accounts.{token_client}
use Rattle.session_calls.proofs.Granted.{token_unused, gave_up}
use Rattle.session_calls.proofs.hand.Hand.give_up.Goals as goal

pub decrease_now-requires-clause-client : goal.decrease_now-requires-clause-client
decrease_now-requires-clause-client g c = token_client g.D.Slot g.O.Opened.opening g.O.Opened.outset c.args.self.now c.requires.ready c.of-mine.result c.tracker-tracker.result c.args.c.now.tracker c.of-mine.ensures c.tracker-tracker.ensures c.requires.client

pub decrease_now-requires-clause-unused : goal.decrease_now-requires-clause-unused
decrease_now-requires-clause-unused g c = token_unused g.D.Slot g.O.Opened.opening g.O.Opened.outset c.args.self.now c.requires.ready c.of-mine.result c.tracker-tracker.result c.args.c.now.tracker c.of-mine.ensures c.tracker-tracker.ensures c.requires.client c.args.bytes c.requires.unused

pub returns-clause-ready : goal.returns-clause-ready
returns-clause-ready g c =
    let new : Hand g.row.D.Denot = record { state = c.decrease_now.new.self; trail = c.enter.new.trail; counts = c.args.self.now.counts; session = c.args.self.now.session; gone = c.args.self.now.gone } in
    gave_up g.D.Slot g.O.Opened.opening g.O.Opened.outset c.args.self.now c.requires.ready c.of-mine.result c.tracker-tracker.result c.args.c.now.tracker c.of-mine.ensures c.tracker-tracker.ensures c.args.bytes new
    c.decrease_now.ensures.enters c.enter.ensures refl refl
