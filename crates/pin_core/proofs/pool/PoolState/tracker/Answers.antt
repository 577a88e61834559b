use Rattle.pin_core.proofs.Readings.{seat_lives, query_told}
use Rattle.pin_core.proofs.pool.PoolState.tracker.Goals as goal

pub query-requires : goal.query-requires
query-requires g c = seat_lives c.self.inside.parts c.args.self.now c.self.view_is c.laws.ensures c.args.s c.requires

pub returns : goal.returns
returns g c = query_told c.self.inside.parts c.args.self.now c.self.view_is c.laws.ensures c.args.s c.requires c.query.result c.of.result c.query.ensures c.of.ensures
