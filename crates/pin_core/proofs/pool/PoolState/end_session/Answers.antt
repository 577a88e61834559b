use Rattle.pin_core.proofs.Closing.{seat_lives, query_lives, enough, may_end, ended, spare_then}
use Rattle.pin_core.proofs.pool.PoolState.end_session.Goals as goal

pub query-requires : goal.query-requires
query-requires g c =
    seat_lives c.self.inside.parts c.args.self.now c.self.view_is c.self.invariant c.laws.ensures c.args.s c.requires.live c.requires.no_client

pub reservation-bytes-requires : goal.reservation-bytes-requires
reservation-bytes-requires g c =
    query_lives c.self.inside.parts c.args.self.now c.self.view_is c.self.invariant c.laws.ensures c.args.s c.requires.live c.requires.no_client c.query.result c.of-query.result c.query.ensures c.of-query.ensures

pub decrease-requires-clause-live : goal.decrease-requires-clause-live
decrease-requires-clause-live g c =
    query_lives c.self.inside.parts c.args.self.now c.self.view_is c.self.invariant c.laws.ensures c.args.s c.requires.live c.requires.no_client c.query.result c.of-query.result c.query.ensures c.of-query.ensures

pub decrease-requires-clause-unused : goal.decrease-requires-clause-unused
decrease-requires-clause-unused g c =
    enough c.self.inside.parts c.args.self.now c.self.view_is c.self.invariant c.laws.ensures c.args.s c.requires.live c.requires.no_client c.query.result c.of-query.result c.query.ensures c.of-query.ensures
    c.reservation-bytes.result c.reservation-bytes.ensures

pub close_session-requires : goal.close_session-requires
close_session-requires g c = record {
  can = may_end c.self.inside.parts c.args.self.now c.self.view_is c.self.invariant c.laws.ensures c.args.s c.requires.live c.requires.no_client c.query.result c.of-query.result c.query.ensures c.of-query.ensures
      c.reservation-bytes.result c.reservation-bytes.ensures c.decrease.new.self c.decrease.ensures c.laws-2.ensures;
}

pub invariant_of-self : goal.invariant_of-self
invariant_of-self g c =
    (ended c.self.inside.parts c.args.self.now c.self.view_is c.self.invariant c.laws.ensures c.args.s c.requires.live c.requires.no_client c.query.result c.of-query.result c.query.ensures c.of-query.ensures
    c.reservation-bytes.result c.reservation-bytes.ensures c.decrease.new.self c.decrease.ensures c.laws-2.ensures
    c.close_session.new.self c.close_session.ensures).kept

pub returns-clause-enters : goal.returns-clause-enters
returns-clause-enters g c =
    (ended c.self.inside.parts c.args.self.now c.self.view_is c.self.invariant c.laws.ensures c.args.s c.requires.live c.requires.no_client c.query.result c.of-query.result c.query.ensures c.of-query.ensures
    c.reservation-bytes.result c.reservation-bytes.ensures c.decrease.new.self c.decrease.ensures c.laws-2.ensures
    c.close_session.new.self c.close_session.ensures).enters g.D.Slot

pub returns-clause-spare : goal.returns-clause-spare
returns-clause-spare g c =
    spare_then c.self.inside.parts c.args.self.now c.self.view_is c.self.invariant c.laws.ensures c.args.s c.requires.live c.requires.no_client c.query.result c.of-query.result c.query.ensures c.of-query.ensures
    c.reservation-bytes.result c.reservation-bytes.ensures c.decrease.new.self c.decrease.ensures c.laws-2.ensures
    c.close_session.new.self c.close_session.ensures
