use Rattle.std.proofs.Common.{◌≤◌}
use Rattle.store_api.specs.Holdings.{Holdings, loan_len, unused_of}
use Rattle.store_api.specs.Conditions.{IsLiveClient, IsLoan}
use Rattle.pool.proofs.Doings.{as_held}
use Rattle.pool.proofs.Charged.{move_buffer_stays}
use Rattle.pool.proofs.Calling.{may_end_call, sits_then, turns_first, works_first}
use Rattle.session_calls.proofs.Carried.{moves_buffer_on}
use Rattle.pool.proofs.Seeing.{call_seen}
use Rattle.pool.proofs.seat.SessionSeat.move_buffer.Goals as goal

pub move_buffer-hand-requires-clause-turns : goal.move_buffer-hand-requires-clause-turns
move_buffer-hand-requires-clause-turns g c = turns_first c.begin_turn-hand.ensures.begins c.args.turns.now c.begin_turn-hand.ensures.table

pub move_buffer-hand-requires-clause-at_work : goal.move_buffer-hand-requires-clause-at_work
move_buffer-hand-requires-clause-at_work g c = works_first c.begin_turn-hand.ensures.begins

pub move_buffer-hand-requires-clause-loan : goal.move_buffer-hand-requires-clause-loan
move_buffer-hand-requires-clause-loan g c = (
  as_held c.self.view_is c.begin_turn-hand.ensures.begins (IsLoan c.args.loan) c.requires.loan,
  as_held c.self.view_is c.begin_turn-hand.ensures.begins (IsLiveClient c.args.to.now) c.requires.to,
)

pub move_buffer-hand-requires-clause-unused : goal.move_buffer-hand-requires-clause-unused
move_buffer-hand-requires-clause-unused g c = as_held c.self.view_is c.begin_turn-hand.ensures.begins (λ (h : Holdings). loan_len c.args.loan.number h ≤ unused_of c.args.to.now.tracker h) c.requires.unused

pub end_turn-requires-clause-may : goal.end_turn-requires-clause-may
end_turn-requires-clause-may g c =
    may_end_call c.begin_turn-hand.ensures.begins
    (move_buffer_stays c.args.to.now.tracker (as_held c.self.view_is c.begin_turn-hand.ensures.begins (IsLiveClient c.args.to.now) c.requires.to) c.begin_turn-hand.ensures.begins.ready c.args.loan (as_held c.self.view_is c.begin_turn-hand.ensures.begins (IsLoan c.args.loan) c.requires.loan) c.move_buffer-hand.result.1 c.move_buffer-hand.ensures.moves.ok c.move_buffer-hand.ensures.moves.err)
    c.args.turns.now c.move_buffer-hand.new.place c.move_buffer-hand.ensures.turns c.move_buffer-hand.ensures.at_work c.self.invariant

pub invariant_of-self : goal.invariant_of-self
invariant_of-self g c =
    sits_then c.begin_turn-hand.ensures.begins
    (move_buffer_stays c.args.to.now.tracker (as_held c.self.view_is c.begin_turn-hand.ensures.begins (IsLiveClient c.args.to.now) c.requires.to) c.begin_turn-hand.ensures.begins.ready c.args.loan (as_held c.self.view_is c.begin_turn-hand.ensures.begins (IsLoan c.args.loan) c.requires.loan) c.move_buffer-hand.result.1 c.move_buffer-hand.ensures.moves.ok c.move_buffer-hand.ensures.moves.err)
    c.end_turn.ensures.ends c.self.invariant

pub returns-clause-moves : goal.returns-clause-moves
returns-clause-moves g c = moves_buffer_on (call_seen c.self.view_is c.begin_turn-hand.ensures.begins c.move_buffer-hand.ensures.at_work.ready c.end_turn.ensures.ends c.end_turn.ensures.table c.requires.table) c.args.loan c.args.to.now.tracker c.move_buffer-hand.result.1 c.move_buffer-hand.ensures.moves
