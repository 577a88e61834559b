use Rattle.pin_core.proofs.Refused.{refused_told}
use Rattle.pin_core.proofs.pool.PoolState.refuse.Goals as goal

pub invariant_of-self : goal.invariant_of-self
invariant_of-self g c =
    (refused_told g.D.Slot c.self.inside.parts c.args.self.now c.self.view_is c.args.s c.args._call.now c.args.entry c.counted-self-inside.result c.counted-self-inside.ensures c.self.invariant c.requires.may).kept

pub returns : goal.returns
returns g c = record {
  enters = (refused_told g.D.Slot c.self.inside.parts c.args.self.now c.self.view_is c.args.s c.args._call.now c.args.entry c.counted-self-inside.result c.counted-self-inside.ensures c.self.invariant c.requires.may).enters;
}
