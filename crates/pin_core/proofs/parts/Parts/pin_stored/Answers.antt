use Rattle.std.proofs.Common.{sym, subst}
use Rattle.pin_core.specs.parts.Changes.{entry_at}
use Rattle.pin_core.specs.Invariant.{IsKept}
use Rattle.pin_core.proofs.PinReady.{turn_known, ready_is, turn_over}
use Rattle.pin_core.proofs.parts.Parts.pin_stored.Goals as goal

pub room_turn-requires-clause-known : goal.room_turn-requires-clause-known
room_turn-requires-clause-known g c =
    turn_known c.args.self.now c.requires.kept c.requires.laws c.args.session c.args.id (entry_at c.args.self.now c.args.id.name) c.requires.can c.look_at-look.result.client c.look_at-look.ensures.client

pub pin_roomy-requires-clause-kept : goal.pin_roomy-requires-clause-kept
pin_roomy-requires-clause-kept g c =
    let ready = ready_is c.args.self.now c.requires.kept c.requires.laws c.args.session c.args.id (entry_at c.args.self.now c.args.id.name) c.requires.can c.room_turn.new.self _ _ c.room_turn.result c.room_turn.ensures c.in-Ready.is in
    subst IsKept (sym ready.1) c.requires.kept

pub returns-in-Ready-clause-turn : goal.returns-in-Ready-clause-turn
returns-in-Ready-clause-turn g c =
    let ready = ready_is c.args.self.now c.requires.kept c.requires.laws c.args.session c.args.id (entry_at c.args.self.now c.args.id.name) c.requires.can c.room_turn.new.self _ _ c.room_turn.result c.room_turn.ensures c.in-Ready.is in
    turn_over c.args.self.now c.room_turn.new.self c.pin_roomy.new.self c.args.session c.args.id c.pin_roomy.result ready.1 (c.pin_roomy.ensures.turn c.args.session)
