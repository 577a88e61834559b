use Rattle.std.proofs.Common.{◌≤◌}
use Rattle.store_api.specs.Holdings.{page_of}
use Rattle.store_api.specs.Conditions.{IsPage}
use Rattle.pool.proofs.Doings.{as_held, may_stay, did_acts, sits_on}
use Rattle.pool.proofs.Stays.{stays_unpinned_once}
use Rattle.pool.proofs.seat.SessionSeat.unpin_once.Goals as goal

pub unpin_once-requires-clause-page : goal.unpin_once-requires-clause-page
unpin_once-requires-clause-page g c = as_held c.self.view_is c.begin_turn-hand.ensures.begins (λ h. IsPage c.args.p.now h) c.requires.page

pub unpin_once-requires-clause-pinned : goal.unpin_once-requires-clause-pinned
unpin_once-requires-clause-pinned g c = as_held c.self.view_is c.begin_turn-hand.ensures.begins (λ h. 2 ≤ (page_of c.args.p.now.name h).pins) c.requires.pinned

pub end_turn-requires-clause-may : goal.end_turn-requires-clause-may
end_turn-requires-clause-may g c =
    may_stay c.self.view_is c.begin_turn-hand.ensures.begins c.unpin_once.new.self c.unpin_once.ensures.acts c.unpin_once.ensures.ready
    (stays_unpinned_once c.begin_turn-hand.result c.unpin_once.new.self c.begin_turn-hand.ensures.begins.ready c.args.p.now.name
    (as_held c.self.view_is c.begin_turn-hand.ensures.begins (λ h. IsPage c.args.p.now h) c.requires.page).lives
    (as_held c.self.view_is c.begin_turn-hand.ensures.begins (λ h. 2 ≤ (page_of c.args.p.now.name h).pins) c.requires.pinned) c.unpin_once.ensures.acts)
    c.self.invariant

pub invariant_of-self : goal.invariant_of-self
invariant_of-self g c = sits_on c.self.view_is c.begin_turn-hand.ensures.begins c.unpin_once.new.self c.end_turn.ensures.ends c.unpin_once.ensures.acts c.self.invariant

pub returns-clause-did : goal.returns-clause-did
returns-clause-did g c = did_acts c.self.view_is c.begin_turn-hand.ensures.begins c.unpin_once.new.self c.end_turn.ensures.ends c.unpin_once.ensures.acts c.end_turn.ensures.table c.requires.table
