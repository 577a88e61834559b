use Rattle.std.proofs.Common.{◌≡◌, ◌≤◌}
use Rattle.store_api.specs.Holdings.{Holdings, length_of, unused_of}
use Rattle.store_api.specs.Conditions.{IsLiveClient}
use Rattle.pool.proofs.Doings.{as_held}
use Rattle.pool.proofs.Charged.{create_stays}
use Rattle.pool.proofs.Calling.{may_end_call, sits_then, turns_first, works_first}
use Rattle.session_calls.proofs.Carried.{creates_on}
use Rattle.pool.proofs.Seeing.{call_seen}
use Rattle.pool.proofs.seat.SessionSeat.create.Goals as goal

pub create-hand-requires-clause-turns : goal.create-hand-requires-clause-turns
create-hand-requires-clause-turns g c = turns_first c.begin_turn-hand.ensures.begins c.args.turns.now c.begin_turn-hand.ensures.table

pub create-hand-requires-clause-at_work : goal.create-hand-requires-clause-at_work
create-hand-requires-clause-at_work g c = works_first c.begin_turn-hand.ensures.begins

pub create-hand-requires-clause-client : goal.create-hand-requires-clause-client
create-hand-requires-clause-client g c = as_held c.self.view_is c.begin_turn-hand.ensures.begins (IsLiveClient c.args.c.now) c.requires.client

pub create-hand-requires-clause-bytes : goal.create-hand-requires-clause-bytes
create-hand-requires-clause-bytes g c = (
  as_held c.self.view_is c.begin_turn-hand.ensures.begins (λ (h : Holdings). c.args.bytes ≡ length_of c.args.blocks h) c.requires.bytes,
  as_held c.self.view_is c.begin_turn-hand.ensures.begins (λ (h : Holdings). c.args.bytes ≤ unused_of c.args.c.now.tracker h) c.requires.unused,
)

pub end_turn-requires-clause-may : goal.end_turn-requires-clause-may
end_turn-requires-clause-may g c =
    may_end_call c.begin_turn-hand.ensures.begins
    (create_stays c.args.c.now.tracker (as_held c.self.view_is c.begin_turn-hand.ensures.begins (IsLiveClient c.args.c.now) c.requires.client) c.args.blocks c.create-hand.result.1 c.create-hand.ensures.creates.ok c.create-hand.ensures.creates.err)
    c.args.turns.now c.create-hand.new.place c.create-hand.ensures.turns c.create-hand.ensures.at_work c.self.invariant

pub invariant_of-self : goal.invariant_of-self
invariant_of-self g c =
    sits_then c.begin_turn-hand.ensures.begins
    (create_stays c.args.c.now.tracker (as_held c.self.view_is c.begin_turn-hand.ensures.begins (IsLiveClient c.args.c.now) c.requires.client) c.args.blocks c.create-hand.result.1 c.create-hand.ensures.creates.ok c.create-hand.ensures.creates.err)
    c.end_turn.ensures.ends c.self.invariant

pub returns-clause-creates : goal.returns-clause-creates
returns-clause-creates g c = creates_on (call_seen c.self.view_is c.begin_turn-hand.ensures.begins c.create-hand.ensures.at_work.ready c.end_turn.ensures.ends c.end_turn.ensures.table c.requires.table) c.args.c.now.tracker c.args.blocks c.args.bytes c.create-hand.result.1 c.create-hand.ensures.creates
