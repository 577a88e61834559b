use Rattle.pin_core.proofs.ReadContent.{answered_content}
use Rattle.pin_core.proofs.ReadEnded.{ended_told, ended_back}
use Rattle.pin_core.proofs.pool.PoolState.finish_read.Goals as goal

pub finish_read-requires-clause-back : goal.finish_read-requires-clause-back
finish_read-requires-clause-back g c = (ended_back c.self.inside.parts c.args.self.now c.self.view_is c.laws.ensures c.args.job c.requires.job).0

pub finish_read-requires-clause-client : goal.finish_read-requires-clause-client
finish_read-requires-clause-client g c = (ended_back c.self.inside.parts c.args.self.now c.self.view_is c.laws.ensures c.args.job c.requires.job).1

pub invariant_of-self : goal.invariant_of-self
invariant_of-self g c =
    (ended_told c.self.inside.parts c.args.self.now c.finish_read.new.self c.self.view_is c.self.invariant c.laws.ensures c.args.job c.requires.job c.requires.found c.finish_read.ensures.parts).kept

pub returns-clause-enters : goal.returns-clause-enters
returns-clause-enters g c =
    (ended_told c.self.inside.parts c.args.self.now c.finish_read.new.self c.self.view_is c.self.invariant c.laws.ensures c.args.job c.requires.job c.requires.found c.finish_read.ensures.parts).enters g.D.Slot

pub returns-clause-content : goal.returns-clause-content
returns-clause-content g c = λ version under o h stands few stored.
    answered_content g.D.Slot c.self.inside.parts c.args.self.now c.self.view_is c.self.invariant c.laws.ensures c.args.job c.requires.job c.finish_read.result c.finish_read.ensures.ok version under o h stands few stored
