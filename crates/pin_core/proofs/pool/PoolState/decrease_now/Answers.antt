use Rattle.pin_core.proofs.Growths.{shrunk_answer}
use Rattle.pin_core.proofs.pool.PoolState.decrease_now.Goals as goal

pub invariant_of-self : goal.invariant_of-self
invariant_of-self g c =
    (shrunk_answer c.self.inside.parts c.args.self.now c.self.view_is c.self.invariant c.laws.ensures c.args.c.now.session c.tracker.result c.args.c.now.tracker c.args.bytes c.tracker.ensures c.requires.client
    c.requires.unused c.requires.room c.decrease.new.self c.decrease.ensures).kept

pub returns : goal.returns
returns g c = record {
  enters = (shrunk_answer c.self.inside.parts c.args.self.now c.self.view_is c.self.invariant c.laws.ensures c.args.c.now.session c.tracker.result c.args.c.now.tracker c.args.bytes c.tracker.ensures c.requires.client
      c.requires.unused c.requires.room c.decrease.new.self c.decrease.ensures).enters g.D.Slot;
}
