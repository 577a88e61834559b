use Rattle.std.proofs.Common.{ℕ, IsSome, sym, ◌∙◌, subst}
use Rattle.pool.specs.Unused.{unused_in}
use Rattle.store_api.specs.Conditions.{IsIdle, IsLiveClient}
use Rattle.pool.proofs.Doings.{as_held, has_first, may_end, sits_on}
use Rattle.pool.proofs.Stays.{has_gone}
use Rattle.session_calls.proofs.Carried.{ends_client_on}
use Rattle.pool.proofs.Seeing.{turn_seen}
use Rattle.pool.proofs.seat.SessionSeat.end_client.Goals as goal

pub remove-requires : goal.remove-requires
remove-requires g c =
    subst (λ (t : ℕ). IsSome (unused_in c.self.inside.ledger.accounts t)) (sym c.tracker.ensures)
    ((has_first c.self.view_is c.begin_turn-hand.ensures.begins c.self.invariant).each c.args.c.tracker ∙ as_held c.self.view_is c.begin_turn-hand.ensures.begins (λ h. IsLiveClient c.args.c h) c.requires.client)

pub end_client-requires-clause-client : goal.end_client-requires-clause-client
end_client-requires-clause-client g c = as_held c.self.view_is c.begin_turn-hand.ensures.begins (λ h. IsLiveClient c.args.c h) c.requires.client

pub end_client-requires-clause-idle : goal.end_client-requires-clause-idle
end_client-requires-clause-idle g c = as_held c.self.view_is c.begin_turn-hand.ensures.begins (λ h. IsIdle c.args.c.tracker h) c.requires.idle

pub end_turn-requires-clause-may : goal.end_turn-requires-clause-may
end_turn-requires-clause-may g c =
    may_end c.self.view_is c.begin_turn-hand.ensures.begins c.end_client.new.self c.end_client.ensures.ends.did c.end_client.ensures.ready (record { room = c.self.inside.ledger.room; accounts = c.remove.new.self })
    (has_gone c.begin_turn-hand.result c.end_client.new.self c.begin_turn-hand.ensures.begins.ready c.self.inside.ledger.accounts c.remove.new.self c.args.c.tracker c.tracker.result c.tracker.ensures
    (has_first c.self.view_is c.begin_turn-hand.ensures.begins c.self.invariant) (as_held c.self.view_is c.begin_turn-hand.ensures.begins (λ h. IsLiveClient c.args.c h) c.requires.client) c.end_client.ensures.ends.apart c.end_client.ensures.ends.did
    c.remove.ensures.unused c.remove.ensures.count)

pub invariant_of-self : goal.invariant_of-self
invariant_of-self g c = sits_on c.self.view_is c.begin_turn-hand.ensures.begins c.end_client.new.self c.end_turn.ensures.ends c.end_client.ensures.ends.did c.self.invariant

pub returns-clause-ends : goal.returns-clause-ends
returns-clause-ends g c = ends_client_on (turn_seen c.self.view_is c.begin_turn-hand.ensures.begins c.end_client.ensures.ready c.end_turn.ensures.ends c.end_turn.ensures.table c.requires.table) c.args.c.tracker c.end_client.ensures.ends
