use Rattle.std.proofs.Common.{◌≤◌}
use Rattle.store_api.specs.Holdings.{Holdings, unused_of}
use Rattle.store_api.specs.Conditions.{IsLiveClient}
use Rattle.pool.proofs.Doings.{as_held}
use Rattle.pool.proofs.Charged.{move_stays}
use Rattle.pool.proofs.Calling.{may_end_call, sits_then, turns_first, works_first}
use Rattle.session_calls.proofs.Carried.{moves_reservation_on}
use Rattle.pool.proofs.Seeing.{call_seen}
use Rattle.pool.proofs.seat.SessionSeat.move_reservation.Goals as goal

pub move_reservation-hand-requires-clause-turns : goal.move_reservation-hand-requires-clause-turns
move_reservation-hand-requires-clause-turns g c = turns_first c.begin_turn-hand.ensures.begins c.args.turns.now c.begin_turn-hand.ensures.table

pub move_reservation-hand-requires-clause-at_work : goal.move_reservation-hand-requires-clause-at_work
move_reservation-hand-requires-clause-at_work g c = works_first c.begin_turn-hand.ensures.begins

pub move_reservation-hand-requires-clause-clients : goal.move_reservation-hand-requires-clause-clients
move_reservation-hand-requires-clause-clients g c = (
  as_held c.self.view_is c.begin_turn-hand.ensures.begins (IsLiveClient c.args.from.now) c.requires.from,
  as_held c.self.view_is c.begin_turn-hand.ensures.begins (IsLiveClient c.args.to.now) c.requires.to,
)

pub move_reservation-hand-requires-clause-unused : goal.move_reservation-hand-requires-clause-unused
move_reservation-hand-requires-clause-unused g c = as_held c.self.view_is c.begin_turn-hand.ensures.begins (λ (h : Holdings). c.args.bytes ≤ unused_of c.args.from.now.tracker h) c.requires.unused

pub end_turn-requires-clause-may : goal.end_turn-requires-clause-may
end_turn-requires-clause-may g c =
    may_end_call c.begin_turn-hand.ensures.begins
    (move_stays c.args.from.now.tracker (as_held c.self.view_is c.begin_turn-hand.ensures.begins (IsLiveClient c.args.from.now) c.requires.from) c.args.to.now.tracker c.args.bytes (as_held c.self.view_is c.begin_turn-hand.ensures.begins (IsLiveClient c.args.to.now) c.requires.to)
    c.move_reservation-hand.result.1 c.move_reservation-hand.ensures.moves.ok c.move_reservation-hand.ensures.moves.refused c.move_reservation-hand.ensures.moves.err)
    c.args.turns.now c.move_reservation-hand.new.place c.move_reservation-hand.ensures.turns c.move_reservation-hand.ensures.at_work c.self.invariant

pub invariant_of-self : goal.invariant_of-self
invariant_of-self g c =
    sits_then c.begin_turn-hand.ensures.begins
    (move_stays c.args.from.now.tracker (as_held c.self.view_is c.begin_turn-hand.ensures.begins (IsLiveClient c.args.from.now) c.requires.from) c.args.to.now.tracker c.args.bytes (as_held c.self.view_is c.begin_turn-hand.ensures.begins (IsLiveClient c.args.to.now) c.requires.to)
    c.move_reservation-hand.result.1 c.move_reservation-hand.ensures.moves.ok c.move_reservation-hand.ensures.moves.refused c.move_reservation-hand.ensures.moves.err)
    c.end_turn.ensures.ends c.self.invariant

pub returns-clause-moves : goal.returns-clause-moves
returns-clause-moves g c = moves_reservation_on (call_seen c.self.view_is c.begin_turn-hand.ensures.begins c.move_reservation-hand.ensures.at_work.ready c.end_turn.ensures.ends c.end_turn.ensures.table c.requires.table) c.args.from.now.tracker c.args.to.now.tracker c.args.bytes c.move_reservation-hand.result.1 c.move_reservation-hand.ensures.moves
