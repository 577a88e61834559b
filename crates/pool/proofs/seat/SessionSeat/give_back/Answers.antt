use Rattle.std.proofs.Common.{◌≤◌}
use Rattle.store_api.specs.Holdings.{Holdings, unused_of}
use Rattle.store_api.specs.Conditions.{IsLiveClient}
use Rattle.pool.proofs.Doings.{as_held}
use Rattle.pool.proofs.Charged.{give_back_stays}
use Rattle.pool.proofs.Calling.{may_end_call, sits_then, turns_first, works_first}
use Rattle.session_calls.proofs.Carried.{gives_back_on}
use Rattle.pool.proofs.Seeing.{call_seen}
use Rattle.pool.proofs.seat.SessionSeat.give_back.Goals as goal

pub give_back-hand-requires-clause-turns : goal.give_back-hand-requires-clause-turns
give_back-hand-requires-clause-turns g c = turns_first c.begin_turn-hand.ensures.begins c.args.turns.now c.begin_turn-hand.ensures.table

pub give_back-hand-requires-clause-at_work : goal.give_back-hand-requires-clause-at_work
give_back-hand-requires-clause-at_work g c = works_first c.begin_turn-hand.ensures.begins

pub give_back-hand-requires-clause-client : goal.give_back-hand-requires-clause-client
give_back-hand-requires-clause-client g c = as_held c.self.view_is c.begin_turn-hand.ensures.begins (IsLiveClient c.args.c.now) c.requires.client

pub give_back-hand-requires-clause-unused : goal.give_back-hand-requires-clause-unused
give_back-hand-requires-clause-unused g c = as_held c.self.view_is c.begin_turn-hand.ensures.begins (λ (h : Holdings). c.args.bytes ≤ unused_of c.args.c.now.tracker h) c.requires.unused

pub end_turn-requires-clause-may : goal.end_turn-requires-clause-may
end_turn-requires-clause-may g c =
    may_end_call c.begin_turn-hand.ensures.begins
    (give_back_stays c.args.c.now.tracker (as_held c.self.view_is c.begin_turn-hand.ensures.begins (IsLiveClient c.args.c.now) c.requires.client) c.args.bytes c.give_back-hand.result.1 c.give_back-hand.ensures.gives_back.ok c.give_back-hand.ensures.gives_back.err)
    c.args.turns.now c.give_back-hand.new.place c.give_back-hand.ensures.turns c.give_back-hand.ensures.at_work c.self.invariant

pub invariant_of-self : goal.invariant_of-self
invariant_of-self g c =
    sits_then c.begin_turn-hand.ensures.begins
    (give_back_stays c.args.c.now.tracker (as_held c.self.view_is c.begin_turn-hand.ensures.begins (IsLiveClient c.args.c.now) c.requires.client) c.args.bytes c.give_back-hand.result.1 c.give_back-hand.ensures.gives_back.ok c.give_back-hand.ensures.gives_back.err)
    c.end_turn.ensures.ends c.self.invariant

pub returns-clause-gives_back : goal.returns-clause-gives_back
returns-clause-gives_back g c = gives_back_on (call_seen c.self.view_is c.begin_turn-hand.ensures.begins c.give_back-hand.ensures.at_work.ready c.end_turn.ensures.ends c.end_turn.ensures.table c.requires.table) c.args.c.now.tracker c.args.bytes c.give_back-hand.result.1 c.give_back-hand.ensures.gives_back
