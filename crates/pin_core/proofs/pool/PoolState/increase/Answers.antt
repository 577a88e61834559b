use Rattle.pin_core.proofs.Growths.{grown_answer, grown_refused}
use Rattle.pin_core.proofs.pool.PoolState.increase.Goals as goal

pub invariant_of-self : goal.invariant_of-self
invariant_of-self g c =
    (grown_answer c.self.inside.parts c.args.self.now c.self.view_is c.self.invariant c.laws.ensures c.args.c.now.session c.tracker.result c.args.c.now.tracker c.args.bytes c.tracker.ensures c.requires.client
    c.increase.result c.increase.new.self c.increase.ensures.ok c.increase.ensures.err c.increase.ensures.refused).kept

pub returns-clause-ok : goal.returns-clause-ok
returns-clause-ok g c =
    (grown_answer c.self.inside.parts c.args.self.now c.self.view_is c.self.invariant c.laws.ensures c.args.c.now.session c.tracker.result c.args.c.now.tracker c.args.bytes c.tracker.ensures c.requires.client
    c.increase.result c.increase.new.self c.increase.ensures.ok c.increase.ensures.err c.increase.ensures.refused).ok g.D.Slot

pub returns-clause-refused : goal.returns-clause-refused
returns-clause-refused g c =
    grown_refused c.self.inside.parts c.args.self.now c.self.view_is c.self.invariant c.laws.ensures c.args.c.now.session c.tracker.result c.args.c.now.tracker c.args.bytes c.tracker.ensures c.requires.client
    c.increase.result c.increase.new.self c.increase.ensures.refused
