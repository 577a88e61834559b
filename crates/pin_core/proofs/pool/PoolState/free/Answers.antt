use Rattle.pin_core.proofs.Relent.{free_is}
use Rattle.pin_core.proofs.pool.PoolState.free.Goals as goal

pub free-requires : goal.free-requires
free-requires g c = (free_is c.self.inside.parts c.args.self.now c.args.loan c.self.view_is c.self.invariant c.requires.loan).ready

pub invariant_of-self : goal.invariant_of-self
invariant_of-self g c =
    (free_is c.self.inside.parts c.args.self.now c.args.loan c.self.view_is c.self.invariant c.requires.loan).kept c.free.new.self c.free.ensures

pub returns : goal.returns
returns g c = record {
  enters = (free_is c.self.inside.parts c.args.self.now c.args.loan c.self.view_is c.self.invariant c.requires.loan).enters g.D.Slot c.free.new.self c.free.ensures;
}
