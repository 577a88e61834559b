use Rattle.pin_core.proofs.Readings.{quotas_ended, all_home}
use Rattle.pin_core.proofs.pool.PoolState.close.Goals as goal

pub close-requires : goal.close-requires
close-requires g c = quotas_ended c.self.inside.parts c.args.self c.self.view_is c.self.invariant c.requires.ended c.into_slots.result c.into_slots.ensures

pub returns-clause-slots : goal.returns-clause-slots
returns-clause-slots g c measure =
    all_home c.self.inside.parts c.args.self c.self.view_is c.self.invariant c.requires.ended c.into_slots.result c.into_slots.ensures measure c.close.result.items c.close.ensures.slots
