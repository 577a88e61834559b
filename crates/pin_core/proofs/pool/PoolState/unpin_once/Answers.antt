use Rattle.pin_core.proofs.Repinned.{repin_can, once_ready, once_told}
use Rattle.pin_core.proofs.pool.PoolState.unpin_once.Goals as goal

pub unpin_once-requires-clause-can : goal.unpin_once-requires-clause-can
unpin_once-requires-clause-can g c = repin_can c.self.inside.parts c.args.self.now c.id_of.result c.args.p.now c.self.view_is c.id_of.ensures c.self.invariant c.laws.ensures c.requires.several.pinned

pub unpin_once-requires-clause-ready : goal.unpin_once-requires-clause-ready
unpin_once-requires-clause-ready g c = once_ready c.self.inside.parts c.args.self.now c.id_of.result c.args.p.now c.self.view_is c.id_of.ensures c.self.invariant c.laws.ensures c.requires.several.pinned c.requires.several.several

pub invariant_of-self : goal.invariant_of-self
invariant_of-self g c =
    (once_told c.self.inside.parts c.args.self.now c.id_of.result c.args.p.now c.self.view_is c.id_of.ensures c.self.invariant c.laws.ensures c.requires.several.pinned c.requires.several.several
    c.unpin_once.new.self c.unpin_once.ensures).kept

pub returns : goal.returns
returns g c = record {
  enters = (once_told c.self.inside.parts c.args.self.now c.id_of.result c.args.p.now c.self.view_is c.id_of.ensures c.self.invariant c.laws.ensures c.requires.several.pinned c.requires.several.several
      c.unpin_once.new.self c.unpin_once.ensures).enters g.D.Slot;
}
