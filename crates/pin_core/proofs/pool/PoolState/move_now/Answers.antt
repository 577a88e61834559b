use Rattle.pin_core.proofs.Growths.{transferred_answer}
use Rattle.pin_core.proofs.pool.PoolState.move_now.Goals as goal

pub invariant_of-self : goal.invariant_of-self
invariant_of-self g c =
    (transferred_answer c.self.inside.parts c.args.self.now c.self.view_is c.self.invariant c.laws.ensures c.args.from.now.session c.tracker.result c.args.from.now.tracker c.args.bytes c.tracker.ensures c.requires.client
    c.requires.unused c.requires.room c.tracker-2.result c.args.to.now.tracker c.tracker-2.ensures c.requires.to
    c.transfer.result c.transfer.new.self c.transfer.ensures.ok c.transfer.ensures.err c.transfer.ensures.refused).kept

pub returns-clause-ok : goal.returns-clause-ok
returns-clause-ok g c =
    (transferred_answer c.self.inside.parts c.args.self.now c.self.view_is c.self.invariant c.laws.ensures c.args.from.now.session c.tracker.result c.args.from.now.tracker c.args.bytes c.tracker.ensures c.requires.client
    c.requires.unused c.requires.room c.tracker-2.result c.args.to.now.tracker c.tracker-2.ensures c.requires.to
    c.transfer.result c.transfer.new.self c.transfer.ensures.ok c.transfer.ensures.err c.transfer.ensures.refused).ok g.D.Slot
