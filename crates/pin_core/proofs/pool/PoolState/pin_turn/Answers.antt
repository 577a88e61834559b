use Rattle.std.proofs.Common.{◌∙◌}
use Rattle.pin_core.proofs.PinTurned.{pin_can, pin_told, pin_told_gone}
use Rattle.pin_core.proofs.pool.PoolState.pin_turn.Goals as goal

pub pin_turn-requires-clause-can : goal.pin_turn-requires-clause-can
pin_turn-requires-clause-can g c = pin_can c.self.inside.parts c.args.self.now c.id_of-id.result c.args.p.now c.self.view_is c.id_of-id.ensures c.self.invariant c.laws.ensures c.args.s c.requires.can

pub invariant_of-self : goal.invariant_of-self
invariant_of-self g c =
    (pin_told c.self.inside.parts c.args.self.now c.id_of-id.result c.args.p.now c.self.view_is c.id_of-id.ensures c.self.invariant c.laws.ensures c.args.s c.requires.can
    c.pin_turn.result c.pin_turn.new.self c.pin_turn.ensures.turn).kept

pub returns-clause-turn : goal.returns-clause-turn
returns-clause-turn g c =
    (pin_told c.self.inside.parts c.args.self.now c.id_of-id.result c.args.p.now c.self.view_is c.id_of-id.ensures c.self.invariant c.laws.ensures c.args.s c.requires.can
    c.pin_turn.result c.pin_turn.new.self c.pin_turn.ensures.turn).turn g.D.Slot

pub returns-clause-enters : goal.returns-clause-enters
returns-clause-enters g c =
    (pin_told c.self.inside.parts c.args.self.now c.id_of-id.result c.args.p.now c.self.view_is c.id_of-id.ensures c.self.invariant c.laws.ensures c.args.s c.requires.can
    c.pin_turn.result c.pin_turn.new.self c.pin_turn.ensures.turn).enters g.D.Slot

pub returns-clause-gone : goal.returns-clause-gone
returns-clause-gone g c =
    c.pin_turn.ensures.gone
    ∙ pin_told_gone c.self.inside.parts c.args.self.now c.id_of-id.result c.args.p.now c.self.view_is c.id_of-id.ensures c.self.invariant c.laws.ensures c.args.s c.requires.can c.args.gone.now c.pin_turn.result
