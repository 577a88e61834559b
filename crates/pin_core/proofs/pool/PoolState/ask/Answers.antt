use Rattle.pin_core.proofs.Asked.{seat_there, asked_answer}
use Rattle.pin_core.proofs.pool.PoolState.ask.Goals as goal

pub ask-requires : goal.ask-requires
ask-requires g c = seat_there c.self.inside.parts c.args.self.now c.self.view_is c.args.s c.requires.live

pub invariant_of-self : goal.invariant_of-self
invariant_of-self g c =
    (asked_answer c.self.inside.parts c.args.self.now c.self.view_is c.args.s c.requires.live c.self.invariant c.laws.ensures c.ask.new.self c.ask.ensures).kept

pub returns-clause-enters : goal.returns-clause-enters
returns-clause-enters g c =
    (asked_answer c.self.inside.parts c.args.self.now c.self.view_is c.args.s c.requires.live c.self.invariant c.laws.ensures c.ask.new.self c.ask.ensures).enters g.D.Slot
