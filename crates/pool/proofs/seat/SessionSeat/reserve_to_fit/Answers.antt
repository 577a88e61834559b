use Rattle.std.proofs.Common.{inl, refl}
use Rattle.store_api.specs.Conditions.{IsLiveClient}
use Rattle.pool.proofs.Doings.{as_held, may_stay, sits_on}
use Rattle.pool.proofs.Stays.{acts_either, stays_fitted}
use Rattle.session_calls.proofs.Carried.{reserves_to_fit_on}
use Rattle.pool.proofs.Seeing.{turn_seen}
use Rattle.pool.proofs.seat.SessionSeat.reserve_to_fit.Goals as goal

pub reserve_to_fit-result-requires-clause-above : goal.reserve_to_fit-result-requires-clause-above
reserve_to_fit-result-requires-clause-above g c = inl refl

pub reserve_to_fit-result-requires-clause-client : goal.reserve_to_fit-result-requires-clause-client
reserve_to_fit-result-requires-clause-client g c = as_held c.self.view_is c.begin_turn-hand.ensures.begins (λ h. IsLiveClient c.args.c.now h) c.requires.client

pub end_turn-requires-clause-may : goal.end_turn-requires-clause-may
end_turn-requires-clause-may g c =
    may_stay c.self.view_is c.begin_turn-hand.ensures.begins c.reserve_to_fit-result.new.self
    (acts_either c.begin_turn-hand.result c.reserve_to_fit-result.new.self _ c.reserve_to_fit-result.result c.reserve_to_fit-result.ensures.reserves.ok c.reserve_to_fit-result.ensures.reserves.err) c.reserve_to_fit-result.ensures.ready
    (stays_fitted c.begin_turn-hand.result c.reserve_to_fit-result.new.self c.begin_turn-hand.ensures.begins.ready c.reserve_to_fit-result.result c.args.c.now.tracker c.args.bytes
    (as_held c.self.view_is c.begin_turn-hand.ensures.begins (λ h. IsLiveClient c.args.c.now h) c.requires.client) c.reserve_to_fit-result.ensures.reserves.ok c.reserve_to_fit-result.ensures.reserves.err)
    c.self.invariant

pub invariant_of-self : goal.invariant_of-self
invariant_of-self g c =
    sits_on c.self.view_is c.begin_turn-hand.ensures.begins c.reserve_to_fit-result.new.self c.end_turn.ensures.ends
    (acts_either c.begin_turn-hand.result c.reserve_to_fit-result.new.self _ c.reserve_to_fit-result.result c.reserve_to_fit-result.ensures.reserves.ok c.reserve_to_fit-result.ensures.reserves.err) c.self.invariant

pub returns-clause-reserves : goal.returns-clause-reserves
returns-clause-reserves g c = reserves_to_fit_on (turn_seen c.self.view_is c.begin_turn-hand.ensures.begins c.reserve_to_fit-result.ensures.ready c.end_turn.ensures.ends c.end_turn.ensures.table c.requires.table) c.args.c.now.tracker c.args.bytes c.reserve_to_fit-result.result c.reserve_to_fit-result.ensures.reserves
