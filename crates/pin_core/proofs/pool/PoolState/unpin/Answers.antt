use Rattle.pin_core.proofs.Unpinned.{unpin_can, unpin_ready, unpin_done, unpin_cause}
use Rattle.pin_core.proofs.pool.PoolState.unpin.Goals as goal

pub unpin-requires-clause-can : goal.unpin-requires-clause-can
unpin-requires-clause-can g c = unpin_can c.self.inside.parts c.args.self.now c.self.view_is c.id_of-id.result c.args.p.now c.id_of-id.ensures c.laws.ensures c.args.buf c.requires.last

pub unpin-requires-clause-ready : goal.unpin-requires-clause-ready
unpin-requires-clause-ready g c =
    unpin_ready c.self.inside.parts c.self.invariant c.laws.ensures c.id_of-id.result _ c.args.buf
    (unpin_can c.self.inside.parts c.args.self.now c.self.view_is c.id_of-id.result c.args.p.now c.id_of-id.ensures c.laws.ensures c.args.buf c.requires.last)

pub invariant_of-self : goal.invariant_of-self
invariant_of-self g c =
    (unpin_done c.self.inside.parts c.args.self.now c.id_of-id.result c.args.p.now c.args.buf c.self.view_is c.id_of-id.ensures c.self.invariant c.laws.ensures c.requires.last
    c.unpin.result c.unpin.new.self c.unpin.ensures.ok c.unpin.ensures.err c.unpin.ensures.refused).kept

pub returns-clause-enters : goal.returns-clause-enters
returns-clause-enters g c =
    (unpin_done c.self.inside.parts c.args.self.now c.id_of-id.result c.args.p.now c.args.buf c.self.view_is c.id_of-id.ensures c.self.invariant c.laws.ensures c.requires.last
    c.unpin.result c.unpin.new.self c.unpin.ensures.ok c.unpin.ensures.err c.unpin.ensures.refused).enters g.D.Slot

pub returns-clause-refused : goal.returns-clause-refused
returns-clause-refused g c =
    (unpin_done c.self.inside.parts c.args.self.now c.id_of-id.result c.args.p.now c.args.buf c.self.view_is c.id_of-id.ensures c.self.invariant c.laws.ensures c.requires.last
    c.unpin.result c.unpin.new.self c.unpin.ensures.ok c.unpin.ensures.err c.unpin.ensures.refused).refused

pub returns-clause-cause : goal.returns-clause-cause
returns-clause-cause g c =
    unpin_cause c.self.inside.parts c.args.self.now c.id_of-id.result c.args.p.now c.args.buf c.self.view_is c.id_of-id.ensures c.self.invariant c.laws.ensures c.requires.last
    c.unpin.result c.unpin.ensures.refused c.unpin.ensures.cause
