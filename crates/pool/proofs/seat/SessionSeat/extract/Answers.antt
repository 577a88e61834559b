use Rattle.std.proofs.Common.{◌≡◌}
use Rattle.store_api.specs.Holdings.{page_of}
use Rattle.store_api.specs.Conditions.{Fits, IsPage}
use Rattle.pool.proofs.Doings.{as_held, may_stay, sits_on}
use Rattle.pool.proofs.Stays.{stays_extracted}
use Rattle.session_calls.proofs.Carried.{extracts_on}
use Rattle.pool.proofs.Seeing.{turn_seen}
use Rattle.pool.proofs.seat.SessionSeat.extract.Goals as goal

pub extract-loan-requires-clause-page : goal.extract-loan-requires-clause-page
extract-loan-requires-clause-page g c = as_held c.self.view_is c.begin_turn-hand.ensures.begins (λ h. IsPage c.args.p h) c.requires.page

pub extract-loan-requires-clause-pinned : goal.extract-loan-requires-clause-pinned
extract-loan-requires-clause-pinned g c = as_held c.self.view_is c.begin_turn-hand.ensures.begins (λ h. (page_of c.args.p.name h).pins ≡ 1) c.requires.pinned

pub extract-loan-requires-clause-buffer : goal.extract-loan-requires-clause-buffer
extract-loan-requires-clause-buffer g c = as_held c.self.view_is c.begin_turn-hand.ensures.begins (λ h. Fits (page_of c.args.p.name h).blocks h c.args.buf) c.requires.buffer

pub end_turn-requires-clause-may : goal.end_turn-requires-clause-may
end_turn-requires-clause-may g c =
    may_stay c.self.view_is c.begin_turn-hand.ensures.begins c.extract-loan.new.self c.extract-loan.ensures.extracts.did c.extract-loan.ensures.ready
    (stays_extracted c.begin_turn-hand.result c.extract-loan.new.self c.begin_turn-hand.ensures.begins.ready c.args.p.name c.extract-loan.result.number c.extract-loan.ensures.extracts.did)
    c.self.invariant

pub invariant_of-self : goal.invariant_of-self
invariant_of-self g c = sits_on c.self.view_is c.begin_turn-hand.ensures.begins c.extract-loan.new.self c.end_turn.ensures.ends c.extract-loan.ensures.extracts.did c.self.invariant

pub returns-clause-extracts : goal.returns-clause-extracts
returns-clause-extracts g c = extracts_on (turn_seen c.self.view_is c.begin_turn-hand.ensures.begins c.extract-loan.ensures.ready c.end_turn.ensures.ends c.end_turn.ensures.table c.requires.table) c.args.p c.args.buf c.extract-loan.result c.extract-loan.ensures.extracts
