use Rattle.std.proofs.Common.{◌≤◌}
use Rattle.store_api.specs.Holdings.{Holdings, page_len, page_of, unused_of}
use Rattle.store_api.specs.Conditions.{IsPage}
use Rattle.pool.proofs.Doings.{as_held}
use Rattle.pool.proofs.Charged.{pin_again_stays}
use Rattle.pool.proofs.Calling.{may_end_call, sits_then, turns_first, works_first}
use Rattle.session_calls.proofs.Carried.{pins_again_on}
use Rattle.pool.proofs.Seeing.{call_seen}
use Rattle.pool.proofs.seat.SessionSeat.pin_again.Goals as goal

pub pin_again-hand-requires-clause-turns : goal.pin_again-hand-requires-clause-turns
pin_again-hand-requires-clause-turns g c = turns_first c.begin_turn-hand.ensures.begins c.args.turns.now c.begin_turn-hand.ensures.table

pub pin_again-hand-requires-clause-at_work : goal.pin_again-hand-requires-clause-at_work
pin_again-hand-requires-clause-at_work g c = works_first c.begin_turn-hand.ensures.begins

pub pin_again-hand-requires-clause-page : goal.pin_again-hand-requires-clause-page
pin_again-hand-requires-clause-page g c = as_held c.self.view_is c.begin_turn-hand.ensures.begins (IsPage c.args.p.now) c.requires.page

pub pin_again-hand-requires-clause-pinned : goal.pin_again-hand-requires-clause-pinned
pin_again-hand-requires-clause-pinned g c = as_held c.self.view_is c.begin_turn-hand.ensures.begins (λ (h : Holdings). 1 ≤ (page_of c.args.p.now.name h).pins) c.requires.pinned

pub pin_again-hand-requires-clause-unused : goal.pin_again-hand-requires-clause-unused
pin_again-hand-requires-clause-unused g c = as_held c.self.view_is c.begin_turn-hand.ensures.begins (λ (h : Holdings). page_len c.args.p.now.name h ≤ unused_of c.args.p.now.client h) c.requires.unused

pub end_turn-requires-clause-may : goal.end_turn-requires-clause-may
end_turn-requires-clause-may g c =
    may_end_call c.begin_turn-hand.ensures.begins
    (pin_again_stays c.begin_turn-hand.ensures.begins.ready c.args.p.now (as_held c.self.view_is c.begin_turn-hand.ensures.begins (IsPage c.args.p.now) c.requires.page) c.pin_again-hand.result.1 c.pin_again-hand.ensures.pins_again.ok c.pin_again-hand.ensures.pins_again.err)
    c.args.turns.now c.pin_again-hand.new.place c.pin_again-hand.ensures.turns c.pin_again-hand.ensures.at_work c.self.invariant

pub invariant_of-self : goal.invariant_of-self
invariant_of-self g c =
    sits_then c.begin_turn-hand.ensures.begins
    (pin_again_stays c.begin_turn-hand.ensures.begins.ready c.args.p.now (as_held c.self.view_is c.begin_turn-hand.ensures.begins (IsPage c.args.p.now) c.requires.page) c.pin_again-hand.result.1 c.pin_again-hand.ensures.pins_again.ok c.pin_again-hand.ensures.pins_again.err)
    c.end_turn.ensures.ends c.self.invariant

pub returns-clause-pins_again : goal.returns-clause-pins_again
returns-clause-pins_again g c = pins_again_on (call_seen c.self.view_is c.begin_turn-hand.ensures.begins c.pin_again-hand.ensures.at_work.ready c.end_turn.ensures.ends c.end_turn.ensures.table c.requires.table) c.args.p.now c.pin_again-hand.result.1 c.pin_again-hand.ensures.pins_again
