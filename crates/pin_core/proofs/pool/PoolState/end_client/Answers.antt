use Rattle.pin_core.proofs.LeavingClients.{seat_lives, to_lives, enough, fits, may_part, ended}
use Rattle.pin_core.proofs.pool.PoolState.end_client.Goals as goal

pub query-requires : goal.query-requires
query-requires g c =
    seat_lives c.self.inside.parts c.args.self.now c.self.view_is c.self.invariant c.laws.ensures c.args.c.session c.args.c.tracker c.requires.client c.requires.idle c.session-s.result c.into_tracker-t.result c.session-s.ensures c.into_tracker-t.ensures

pub give_up-requires-clause-to_live : goal.give_up-requires-clause-to_live
give_up-requires-clause-to_live g c =
    to_lives c.self.inside.parts c.args.self.now c.self.view_is c.self.invariant c.laws.ensures c.args.c.session c.args.c.tracker c.requires.client c.requires.idle c.session-s.result c.into_tracker-t.result c.session-s.ensures c.into_tracker-t.ensures
    c.query.result c.of-query.result c.reservation-bytes.result c.query.ensures c.of-query.ensures c.reservation-bytes.ensures

pub give_up-requires-clause-unused : goal.give_up-requires-clause-unused
give_up-requires-clause-unused g c =
    enough c.self.inside.parts c.args.self.now c.self.view_is c.self.invariant c.laws.ensures c.args.c.session c.args.c.tracker c.requires.client c.requires.idle c.session-s.result c.into_tracker-t.result c.session-s.ensures c.into_tracker-t.ensures
    c.query.result c.of-query.result c.reservation-bytes.result c.query.ensures c.of-query.ensures c.reservation-bytes.ensures

pub give_up-requires-clause-fits : goal.give_up-requires-clause-fits
give_up-requires-clause-fits g c =
    fits c.self.inside.parts c.args.self.now c.self.view_is c.self.invariant c.laws.ensures c.args.c.session c.args.c.tracker c.requires.client c.requires.idle c.session-s.result c.into_tracker-t.result c.session-s.ensures c.into_tracker-t.ensures
    c.query.result c.of-query.result c.reservation-bytes.result c.query.ensures c.of-query.ensures c.reservation-bytes.ensures

pub close_client-requires : goal.close_client-requires
close_client-requires g c = record {
  can = may_part c.self.inside.parts c.args.self.now c.self.view_is c.self.invariant c.laws.ensures c.args.c.session c.args.c.tracker c.requires.client c.requires.idle c.session-s.result c.into_tracker-t.result c.session-s.ensures c.into_tracker-t.ensures
      c.query.result c.of-query.result c.reservation-bytes.result c.query.ensures c.of-query.ensures c.reservation-bytes.ensures c.give_up.new.self c.give_up.ensures c.laws-2.ensures;
}

pub invariant_of-self : goal.invariant_of-self
invariant_of-self g c =
    (ended c.self.inside.parts c.args.self.now c.self.view_is c.self.invariant c.laws.ensures c.args.c.session c.args.c.tracker c.requires.client c.requires.idle c.session-s.result c.into_tracker-t.result c.session-s.ensures c.into_tracker-t.ensures
    c.query.result c.of-query.result c.reservation-bytes.result c.query.ensures c.of-query.ensures c.reservation-bytes.ensures c.give_up.new.self c.give_up.ensures c.laws-2.ensures c.close_client.new.self c.close_client.ensures).kept

pub returns : goal.returns
returns g c = record {
  enters = (ended c.self.inside.parts c.args.self.now c.self.view_is c.self.invariant c.laws.ensures c.args.c.session c.args.c.tracker c.requires.client c.requires.idle c.session-s.result c.into_tracker-t.result c.session-s.ensures c.into_tracker-t.ensures
      c.query.result c.of-query.result c.reservation-bytes.result c.query.ensures c.of-query.ensures c.reservation-bytes.ensures c.give_up.new.self c.give_up.ensures c.laws-2.ensures c.close_client.new.self c.close_client.ensures).enters g.D.Slot;
}
