use Rattle.pin_core.proofs.Turned.{known_told, turn_told}
use Rattle.pin_core.proofs.pool.PoolState.room_turn.Goals as goal

pub room_turn-requires-clause-known : goal.room_turn-requires-clause-known
room_turn-requires-clause-known g c =
    known_told c.self.inside.parts c.args.self.now c.args.s c.number.result c.tracker.result c.args.c.now.tracker c.self.view_is c.number.ensures c.tracker.ensures c.self.invariant c.laws.ensures c.requires.client

pub invariant_of-self : goal.invariant_of-self
invariant_of-self g c =
    (turn_told c.self.inside.parts c.args.self.now c.room_turn.new.self c.args.s c.number.result c.tracker.result c.args.c.now.tracker c.amount.result _ c.room_turn.result
    c.self.view_is c.number.ensures c.tracker.ensures c.amount.ensures c.self.invariant c.laws.ensures c.requires.client c.requires.unused c.room_turn.ensures).kept

pub returns-clause-turn : goal.returns-clause-turn
returns-clause-turn g c =
    (turn_told c.self.inside.parts c.args.self.now c.room_turn.new.self c.args.s c.number.result c.tracker.result c.args.c.now.tracker c.amount.result _ c.room_turn.result
    c.self.view_is c.number.ensures c.tracker.ensures c.amount.ensures c.self.invariant c.laws.ensures c.requires.client c.requires.unused c.room_turn.ensures).turn g.D.Slot

pub returns-clause-enters : goal.returns-clause-enters
returns-clause-enters g c =
    (turn_told c.self.inside.parts c.args.self.now c.room_turn.new.self c.args.s c.number.result c.tracker.result c.args.c.now.tracker c.amount.result _ c.room_turn.result
    c.self.view_is c.number.ensures c.tracker.ensures c.amount.ensures c.self.invariant c.laws.ensures c.requires.client c.requires.unused c.room_turn.ensures).enters g.D.Slot
