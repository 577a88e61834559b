use Rattle.std.proofs.Common.{rules, ◌≤◌, refl, sym, ◌∙◌}
use Rattle.std.proofs.lemmas.Bool.{false≢true}
use Rattle.own_entries.specs.ClientLaws.{IsNewNumber}
use Rattle.session_calls.proofs.Clients.{seat_lives, all_come, not_all}
use Rattle.session_calls.specs.declared.hand.Hand.{Hand}
use Rattle.session_calls.specs.Acting.{held_by}
use Rattle.session_calls.proofs.Knowing.{knows}
use Rattle.session_calls.proofs.Doing.{whose}
use Rattle.session_calls.proofs.Accounts.{came}
use Rattle.session_calls.proofs.hand.Hand.add_client.Goals as goal

pub tracker-query-requires : goal.tracker-query-requires
tracker-query-requires g c = seat_lives (knows g.D.Slot g.O.Opened.opening g.O.Opened.outset c.args.self.now c.requires.ready)

pub add_client-requires : goal.add_client-requires
add_client-requires g c = record { live = seat_lives (knows g.D.Slot g.O.Opened.opening g.O.Opened.outset c.args.self.now c.requires.ready) }

pub returns-in_err-c-clause-adds : goal.returns-in_err-c-clause-adds
returns-in_err-c-clause-adds g c = record {
  ok = search rules;
  fresh = search rules;
  refused =
      let full : 16 ≤ (held_by g.O.Opened.opening g.O.Opened.outset c.args.self.now).live_clients = all_come (knows g.D.Slot g.O.Opened.opening g.O.Opened.outset c.args.self.now c.requires.ready) (c.in_err-c.ensures.refused.0 refl) in
      ((λ _. full), (λ _. c.from_residual.ensures.0));
  cause = search rules;
  err = search rules;
}

pub returns-clause-adds : goal.returns-clause-adds
returns-clause-adds g c = record {
  ok =
      let new : Hand g.row.D.Denot = record { state = c.add_client.new.self; trail = c.enter.new.trail; counts = c.args.self.now.counts; session = c.args.self.now.session; gone = c.args.self.now.gone } in
      (came g.D.Slot g.O.Opened.opening g.O.Opened.outset c.args.self.now c.requires.ready c.in_ok-c.c.tracker c.tracker.result c.tracker-query.result c.args.limit new c.tracker.ensures c.tracker-query.ensures
      (λ full. false≢true (c.in_ok-c.ensures.refused.1 full)) c.in_ok-c.ensures.ok c.enter.ensures refl refl).1;
  fresh =
      let it : IsNewNumber c.in_ok-c.c.tracker (held_by g.O.Opened.opening g.O.Opened.outset c.args.self.now) = (knows g.D.Slot g.O.Opened.opening g.O.Opened.outset c.args.self.now c.requires.ready).fresh.trackers c.in_ok-c.c.tracker c.in_ok-c.ensures.fresh in
      record { fresh = it.fresh; under = it.apart; idle = it.idle; session = c.in_ok-c.ensures.client.0 ∙ sym (whose g.O.Opened.opening g.O.Opened.outset c.args.self.now.session c.args.self.now.trail) };
  refused = (
    (λ never. absurd (false≢true never)),
    (λ full. c.in_ok-c.ensures.refused.1 (not_all (knows g.D.Slot g.O.Opened.opening g.O.Opened.outset c.args.self.now c.requires.ready) c.requires.ready.rests.few full)),
  );
  cause = tt;
  err = tt;
}

pub returns-clause-ready : goal.returns-clause-ready
returns-clause-ready g c =
    let new : Hand g.row.D.Denot = record { state = c.add_client.new.self; trail = c.enter.new.trail; counts = c.args.self.now.counts; session = c.args.self.now.session; gone = c.args.self.now.gone } in
    (came g.D.Slot g.O.Opened.opening g.O.Opened.outset c.args.self.now c.requires.ready c.in_ok-c.c.tracker c.tracker.result c.tracker-query.result c.args.limit new c.tracker.ensures c.tracker-query.ensures
    (λ full. false≢true (c.in_ok-c.ensures.refused.1 full)) c.in_ok-c.ensures.ok c.enter.ensures refl refl).0
