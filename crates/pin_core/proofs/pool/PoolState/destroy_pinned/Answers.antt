use Rattle.pin_core.proofs.Destroyed.{pinned_ends}
use Rattle.pin_core.proofs.pool.PoolState.destroy_pinned.Goals as goal

pub destroy-requires-clause-can : goal.destroy-requires-clause-can
destroy-requires-clause-can g c = (pinned_ends c.self.inside.parts c.args.self.now c.id_of-id.result c.args.p c.args.buf c.self.view_is c.id_of-id.ensures c.self.invariant c.laws.ensures c.requires.pinned).can

pub destroy-requires-clause-ready : goal.destroy-requires-clause-ready
destroy-requires-clause-ready g c = (pinned_ends c.self.inside.parts c.args.self.now c.id_of-id.result c.args.p c.args.buf c.self.view_is c.id_of-id.ensures c.self.invariant c.laws.ensures c.requires.pinned).ready

pub invariant_of-self : goal.invariant_of-self
invariant_of-self g c =
    ((pinned_ends c.self.inside.parts c.args.self.now c.id_of-id.result c.args.p c.args.buf c.self.view_is c.id_of-id.ensures c.self.invariant c.laws.ensures c.requires.pinned).ends
    c.destroy.new.self c.destroy.ensures).kept

pub returns : goal.returns
returns g c = record {
  enters = ((pinned_ends c.self.inside.parts c.args.self.now c.id_of-id.result c.args.p c.args.buf c.self.view_is c.id_of-id.ensures c.self.invariant c.laws.ensures c.requires.pinned).ends
      c.destroy.new.self c.destroy.ensures).enters g.D.Slot;
}
