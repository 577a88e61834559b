use Rattle.pin_core.proofs.Started.{some_told}
use Rattle.pin_core.proofs.pool.PoolState.start_write.Goals as goal

pub invariant_of-self : goal.invariant_of-self
invariant_of-self g c =
    (some_told c.self.inside.parts c.args.self.now c.start_some.new.self c.args.who c.start_some.result c.self.view_is c.self.invariant c.laws.ensures c.requires.writer c.start_some.ensures).kept

pub returns-clause-none : goal.returns-clause-none
returns-clause-none g c =
    (some_told c.self.inside.parts c.args.self.now c.start_some.new.self c.args.who c.start_some.result c.self.view_is c.self.invariant c.laws.ensures c.requires.writer c.start_some.ensures).none

pub returns-clause-started : goal.returns-clause-started
returns-clause-started g c =
    (some_told c.self.inside.parts c.args.self.now c.start_some.new.self c.args.who c.start_some.result c.self.view_is c.self.invariant c.laws.ensures c.requires.writer c.start_some.ensures).started g.D.Slot

pub returns-clause-enters : goal.returns-clause-enters
returns-clause-enters g c =
    (some_told c.self.inside.parts c.args.self.now c.start_some.new.self c.args.who c.start_some.result c.self.view_is c.self.invariant c.laws.ensures c.requires.writer c.start_some.ensures).enters g.D.Slot
