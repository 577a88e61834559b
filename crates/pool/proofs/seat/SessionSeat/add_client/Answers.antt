use Rattle.pool.proofs.Doings.{has_first, no_account, room_left, may_end, sits_on}
use Rattle.pool.proofs.Stays.{acts_either, has_come}
use Rattle.session_calls.proofs.Carried.{adds_client_on}
use Rattle.pool.proofs.Seeing.{turn_seen}
use Rattle.pool.proofs.seat.SessionSeat.add_client.Goals as goal

pub note-requires-clause-fresh : goal.note-requires-clause-fresh
note-requires-clause-fresh g c = no_account c.self.view_is c.begin_turn-hand.ensures.begins c.self.invariant c.add_client-result.result c.add_client-result.ensures.adds.fresh

pub note-requires-clause-room : goal.note-requires-clause-room
note-requires-clause-room g c = room_left c.self.view_is c.begin_turn-hand.ensures.begins c.self.invariant c.add_client-result.result c.add_client-result.ensures.adds.refused.1

pub end_turn-requires-clause-may : goal.end_turn-requires-clause-may
end_turn-requires-clause-may g c =
    may_end c.self.view_is c.begin_turn-hand.ensures.begins c.add_client-result.new.self
    (acts_either c.begin_turn-hand.result c.add_client-result.new.self _ c.add_client-result.result c.add_client-result.ensures.adds.ok c.add_client-result.ensures.adds.err) c.add_client-result.ensures.ready c.note.new.self
    (has_come c.begin_turn-hand.result c.add_client-result.new.self c.begin_turn-hand.ensures.begins.ready _ c.args.limit c.self.inside.ledger c.note.new.self c.add_client-result.result
    (has_first c.self.view_is c.begin_turn-hand.ensures.begins c.self.invariant) c.add_client-result.ensures.adds.ok c.add_client-result.ensures.adds.err c.note.ensures.ok c.note.ensures.err)

pub invariant_of-self : goal.invariant_of-self
invariant_of-self g c =
    sits_on c.self.view_is c.begin_turn-hand.ensures.begins c.add_client-result.new.self c.end_turn.ensures.ends
    (acts_either c.begin_turn-hand.result c.add_client-result.new.self _ c.add_client-result.result c.add_client-result.ensures.adds.ok c.add_client-result.ensures.adds.err) c.self.invariant

pub returns-clause-adds : goal.returns-clause-adds
returns-clause-adds g c = adds_client_on (turn_seen c.self.view_is c.begin_turn-hand.ensures.begins c.add_client-result.ensures.ready c.end_turn.ensures.ends c.end_turn.ensures.table c.requires.table) c.args.limit c.add_client-result.result c.add_client-result.ensures.adds
