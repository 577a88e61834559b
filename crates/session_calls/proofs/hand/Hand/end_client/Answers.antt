use Rattle.std.proofs.Common.{refl}
use Rattle.session_calls.proofs.Clients.{seat_lives}
use Rattle.session_calls.specs.declared.hand.Hand.{Hand}
use Rattle.session_calls.proofs.Knowing.{knows}
use Rattle.session_calls.proofs.Accounts.{read_lives, token_client, token_idle, left}
use Rattle.session_calls.proofs.hand.Hand.end_client.Goals as goal

pub tracker-query-requires : goal.tracker-query-requires
tracker-query-requires g c = seat_lives (knows g.D.Slot g.O.Opened.opening g.O.Opened.outset c.args.self.now c.requires.ready)

pub reservation-bytes-requires : goal.reservation-bytes-requires
reservation-bytes-requires g c = read_lives g.D.Slot g.O.Opened.opening g.O.Opened.outset c.args.self.now c.requires.ready c.into_tracker-tracker.result c.args.c.tracker c.into_tracker-tracker.ensures c.requires.client

pub end_client-requires-clause-client : goal.end_client-requires-clause-client
end_client-requires-clause-client g c = token_client g.D.Slot g.O.Opened.opening g.O.Opened.outset c.args.self.now c.requires.ready c.of.result c.into_tracker-tracker.result c.args.c.tracker c.of.ensures c.into_tracker-tracker.ensures c.requires.client

pub end_client-requires-clause-idle : goal.end_client-requires-clause-idle
end_client-requires-clause-idle g c = token_idle g.D.Slot g.O.Opened.opening g.O.Opened.outset c.args.self.now c.requires.ready c.of.result c.into_tracker-tracker.result c.args.c.tracker c.of.ensures c.into_tracker-tracker.ensures c.requires.client c.requires.idle

pub returns-clause-ends : goal.returns-clause-ends
returns-clause-ends g c = record {
  did =
      let new : Hand g.row.D.Denot = record { state = c.end_client.new.self; trail = c.enter-2.new.trail; counts = c.args.self.now.counts; session = c.args.self.now.session; gone = c.args.self.now.gone } in
      (left g.D.Slot g.O.Opened.opening g.O.Opened.outset c.args.self.now c.requires.ready c.of.result c.into_tracker-tracker.result c.args.c.tracker c.of.ensures c.into_tracker-tracker.ensures c.requires.client c.requires.idle
      c.tracker-query.result c.reservation-bytes.result new c.enter.new.trail c.tracker-query.ensures c.reservation-bytes.ensures c.end_client.ensures.enters c.enter.ensures c.enter-2.ensures refl refl).1;
  apart = (knows g.D.Slot g.O.Opened.opening g.O.Opened.outset c.args.self.now c.requires.ready).fits.apart;
}

pub returns-clause-ready : goal.returns-clause-ready
returns-clause-ready g c =
    let new : Hand g.row.D.Denot = record { state = c.end_client.new.self; trail = c.enter-2.new.trail; counts = c.args.self.now.counts; session = c.args.self.now.session; gone = c.args.self.now.gone } in
    (left g.D.Slot g.O.Opened.opening g.O.Opened.outset c.args.self.now c.requires.ready c.of.result c.into_tracker-tracker.result c.args.c.tracker c.of.ensures c.into_tracker-tracker.ensures c.requires.client c.requires.idle
    c.tracker-query.result c.reservation-bytes.result new c.enter.new.trail c.tracker-query.ensures c.reservation-bytes.ensures c.end_client.ensures.enters c.enter.ensures c.enter-2.ensures refl refl).0
