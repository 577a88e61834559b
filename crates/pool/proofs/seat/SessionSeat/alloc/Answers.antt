use Rattle.std.proofs.Common.{◌≡◌, ◌≤◌}
use Rattle.store_api.specs.Holdings.{Holdings, length_of, unused_of}
use Rattle.store_api.specs.Conditions.{IsLiveClient}
use Rattle.pool.proofs.Doings.{as_held}
use Rattle.pool.proofs.Charged.{alloc_stays}
use Rattle.pool.proofs.Calling.{may_end_call, sits_then, turns_first, works_first}
use Rattle.session_calls.proofs.Carried.{allocs_on}
use Rattle.pool.proofs.Seeing.{call_seen}
use Rattle.pool.proofs.seat.SessionSeat.alloc.Goals as goal

pub alloc-hand-requires-clause-turns : goal.alloc-hand-requires-clause-turns
alloc-hand-requires-clause-turns g c = turns_first c.begin_turn-hand.ensures.begins c.args.turns.now c.begin_turn-hand.ensures.table

pub alloc-hand-requires-clause-at_work : goal.alloc-hand-requires-clause-at_work
alloc-hand-requires-clause-at_work g c = works_first c.begin_turn-hand.ensures.begins

pub alloc-hand-requires-clause-client : goal.alloc-hand-requires-clause-client
alloc-hand-requires-clause-client g c = as_held c.self.view_is c.begin_turn-hand.ensures.begins (IsLiveClient c.args.c.now) c.requires.client

pub alloc-hand-requires-clause-bytes : goal.alloc-hand-requires-clause-bytes
alloc-hand-requires-clause-bytes g c = (
  as_held c.self.view_is c.begin_turn-hand.ensures.begins (λ (h : Holdings). c.args.bytes ≡ length_of c.args.blocks h) c.requires.bytes,
  as_held c.self.view_is c.begin_turn-hand.ensures.begins (λ (h : Holdings). c.args.bytes ≤ unused_of c.args.c.now.tracker h) c.requires.unused,
)

pub end_turn-requires-clause-may : goal.end_turn-requires-clause-may
end_turn-requires-clause-may g c =
    may_end_call c.begin_turn-hand.ensures.begins
    (alloc_stays c.args.c.now.tracker (as_held c.self.view_is c.begin_turn-hand.ensures.begins (IsLiveClient c.args.c.now) c.requires.client) c.args.blocks c.alloc-hand.result.1 c.alloc-hand.ensures.allocs.ok c.alloc-hand.ensures.allocs.err)
    c.args.turns.now c.alloc-hand.new.place c.alloc-hand.ensures.turns c.alloc-hand.ensures.at_work c.self.invariant

pub invariant_of-self : goal.invariant_of-self
invariant_of-self g c =
    sits_then c.begin_turn-hand.ensures.begins
    (alloc_stays c.args.c.now.tracker (as_held c.self.view_is c.begin_turn-hand.ensures.begins (IsLiveClient c.args.c.now) c.requires.client) c.args.blocks c.alloc-hand.result.1 c.alloc-hand.ensures.allocs.ok c.alloc-hand.ensures.allocs.err)
    c.end_turn.ensures.ends c.self.invariant

pub returns-clause-allocs : goal.returns-clause-allocs
returns-clause-allocs g c = allocs_on (call_seen c.self.view_is c.begin_turn-hand.ensures.begins c.alloc-hand.ensures.at_work.ready c.end_turn.ensures.ends c.end_turn.ensures.table c.requires.table) c.args.c.now.tracker c.args.blocks c.alloc-hand.result.1 c.alloc-hand.ensures.allocs
