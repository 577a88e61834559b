use Rattle.pin_core.proofs.Finished.{finished_told, finished_back}
use Rattle.pin_core.proofs.pool.PoolState.finish_write.Goals as goal

pub finish_write-requires-clause-back : goal.finish_write-requires-clause-back
finish_write-requires-clause-back g c = (finished_back c.self.inside.parts c.args.self.now c.self.view_is c.laws.ensures c.args.job c.requires.job).0

pub finish_write-requires-clause-client : goal.finish_write-requires-clause-client
finish_write-requires-clause-client g c = (finished_back c.self.inside.parts c.args.self.now c.self.view_is c.laws.ensures c.args.job c.requires.job).1

pub invariant_of-self : goal.invariant_of-self
invariant_of-self g c =
    (finished_told c.self.inside.parts c.args.self.now c.finish_write.new.self c.self.view_is c.self.invariant c.laws.ensures c.args.job c.requires.job c.finish_write.ensures.parts).kept

pub returns-clause-enters : goal.returns-clause-enters
returns-clause-enters g c =
    (finished_told c.self.inside.parts c.args.self.now c.finish_write.new.self c.self.view_is c.self.invariant c.laws.ensures c.args.job c.requires.job c.finish_write.ensures.parts).enters g.D.Slot
