use Rattle.pin_core.proofs.Growths.{fit_answer, fit_refused}
use Rattle.pin_core.proofs.pool.PoolState.increase_to_fit.Goals as goal

pub invariant_of-self : goal.invariant_of-self
invariant_of-self g c =
    (fit_answer c.self.inside.parts c.args.self.now c.self.view_is c.self.invariant c.laws.ensures c.args.c.now.session c.tracker.result c.args.c.now.tracker c.args.bytes c.tracker.ensures c.requires.client
    c.increase_to_fit.result c.increase_to_fit.new.self c.increase_to_fit.ensures.ok c.increase_to_fit.ensures.err c.increase_to_fit.ensures.refused).kept

pub returns-clause-ok : goal.returns-clause-ok
returns-clause-ok g c =
    (fit_answer c.self.inside.parts c.args.self.now c.self.view_is c.self.invariant c.laws.ensures c.args.c.now.session c.tracker.result c.args.c.now.tracker c.args.bytes c.tracker.ensures c.requires.client
    c.increase_to_fit.result c.increase_to_fit.new.self c.increase_to_fit.ensures.ok c.increase_to_fit.ensures.err c.increase_to_fit.ensures.refused).ok g.D.Slot

pub returns-clause-refused : goal.returns-clause-refused
returns-clause-refused g c =
    fit_refused c.self.inside.parts c.args.self.now c.self.view_is c.self.invariant c.laws.ensures c.args.c.now.session c.tracker.result c.args.c.now.tracker c.args.bytes c.tracker.ensures c.requires.client
    c.increase_to_fit.result c.increase_to_fit.new.self c.increase_to_fit.ensures.refused
