use Rattle.session_calls.specs.Pinning.{CanBePinned}
use Rattle.pool.proofs.Doings.{as_held}
use Rattle.pool.proofs.Charged.{pin_stays}
use Rattle.pool.proofs.Calling.{may_end_call, sits_then, turns_first, works_first}
use Rattle.session_calls.proofs.Carried.{pins_on}
use Rattle.pool.proofs.Seeing.{call_seen}
use Rattle.pool.proofs.seat.SessionSeat.pin.Goals as goal

pub pin-hand-requires-clause-turns : goal.pin-hand-requires-clause-turns
pin-hand-requires-clause-turns g c = turns_first c.begin_turn-hand.ensures.begins c.args.turns.now c.begin_turn-hand.ensures.table

pub pin-hand-requires-clause-at_work : goal.pin-hand-requires-clause-at_work
pin-hand-requires-clause-at_work g c = works_first c.begin_turn-hand.ensures.begins

pub pin-hand-requires-clause-can : goal.pin-hand-requires-clause-can
pin-hand-requires-clause-can g c = as_held c.self.view_is c.begin_turn-hand.ensures.begins (CanBePinned c.args.p.now) c.requires.can

pub end_turn-requires-clause-may : goal.end_turn-requires-clause-may
end_turn-requires-clause-may g c =
    may_end_call c.begin_turn-hand.ensures.begins
    (pin_stays c.begin_turn-hand.ensures.begins.ready c.args.p.now (as_held c.self.view_is c.begin_turn-hand.ensures.begins (CanBePinned c.args.p.now) c.requires.can).page c.pin-hand.result.1 c.pin-hand.ensures.pins.ok c.pin-hand.ensures.pins.err)
    c.args.turns.now c.pin-hand.new.place c.pin-hand.ensures.turns c.pin-hand.ensures.at_work c.self.invariant

pub invariant_of-self : goal.invariant_of-self
invariant_of-self g c =
    sits_then c.begin_turn-hand.ensures.begins
    (pin_stays c.begin_turn-hand.ensures.begins.ready c.args.p.now (as_held c.self.view_is c.begin_turn-hand.ensures.begins (CanBePinned c.args.p.now) c.requires.can).page c.pin-hand.result.1 c.pin-hand.ensures.pins.ok c.pin-hand.ensures.pins.err)
    c.end_turn.ensures.ends c.self.invariant

pub returns-clause-pins : goal.returns-clause-pins
returns-clause-pins g c = pins_on (call_seen c.self.view_is c.begin_turn-hand.ensures.begins c.pin-hand.ensures.at_work.ready c.end_turn.ensures.ends c.end_turn.ensures.table c.requires.table) c.args.p.now c.pin-hand.result.1 c.pin-hand.ensures.pins
