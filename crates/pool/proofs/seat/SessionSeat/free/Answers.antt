use Rattle.store_api.specs.Conditions.{IsLoan}
use Rattle.pool.proofs.Doings.{as_held, may_stay, did_acts, sits_on}
use Rattle.pool.proofs.Stays.{stays_freed}
use Rattle.pool.proofs.seat.SessionSeat.free.Goals as goal

pub free-requires-clause-loan : goal.free-requires-clause-loan
free-requires-clause-loan g c = as_held c.self.view_is c.begin_turn-hand.ensures.begins (λ h. IsLoan c.args.loan h) c.requires.loan

pub end_turn-requires-clause-may : goal.end_turn-requires-clause-may
end_turn-requires-clause-may g c =
    may_stay c.self.view_is c.begin_turn-hand.ensures.begins c.free.new.self c.free.ensures.acts c.free.ensures.ready
    (stays_freed c.begin_turn-hand.result c.free.new.self c.begin_turn-hand.ensures.begins.ready c.args.loan.number (as_held c.self.view_is c.begin_turn-hand.ensures.begins (λ h. IsLoan c.args.loan h) c.requires.loan).lives c.free.ensures.acts)
    c.self.invariant

pub invariant_of-self : goal.invariant_of-self
invariant_of-self g c = sits_on c.self.view_is c.begin_turn-hand.ensures.begins c.free.new.self c.end_turn.ensures.ends c.free.ensures.acts c.self.invariant

pub returns-clause-did : goal.returns-clause-did
returns-clause-did g c = did_acts c.self.view_is c.begin_turn-hand.ensures.begins c.free.new.self c.end_turn.ensures.ends c.free.ensures.acts c.end_turn.ensures.table c.requires.table
