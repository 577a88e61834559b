use Rattle.pin_core.proofs.Repinned.{repin_can, again_ready, again_told}
use Rattle.pin_core.proofs.pool.PoolState.pin_again_now.Goals as goal

pub pin_again-requires-clause-can : goal.pin_again-requires-clause-can
pin_again-requires-clause-can g c = repin_can c.self.inside.parts c.args.self.now c.id_of.result c.args.p.now c.self.view_is c.id_of.ensures c.self.invariant c.laws.ensures c.requires.pinned

pub pin_again-requires-clause-ready : goal.pin_again-requires-clause-ready
pin_again-requires-clause-ready g c = again_ready c.self.inside.parts c.args.self.now c.id_of.result c.args.p.now c.self.view_is c.id_of.ensures c.self.invariant c.laws.ensures c.requires.pinned c.requires.room

pub invariant_of-self : goal.invariant_of-self
invariant_of-self g c =
    (again_told c.self.inside.parts c.args.self.now c.id_of.result c.args.p.now c.self.view_is c.id_of.ensures c.self.invariant c.laws.ensures c.requires.pinned c.requires.room
    c.pin_again.new.self c.pin_again.ensures).kept

pub returns : goal.returns
returns g c = record {
  enters = (again_told c.self.inside.parts c.args.self.now c.id_of.result c.args.p.now c.self.view_is c.id_of.ensures c.self.invariant c.laws.ensures c.requires.pinned c.requires.room
      c.pin_again.new.self c.pin_again.ensures).enters g.D.Slot;
}
