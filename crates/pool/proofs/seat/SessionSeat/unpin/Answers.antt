use Rattle.std.proofs.Common.{◌≡◌}
use Rattle.store_api.specs.Holdings.{page_of}
use Rattle.store_api.specs.Conditions.{Fits, IsPage}
use Rattle.pool.proofs.Doings.{as_held, may_stay, sits_on}
use Rattle.pool.proofs.Stays.{acts_both, stays_unpinned}
use Rattle.session_calls.proofs.Carried.{unpins_on}
use Rattle.pool.proofs.Seeing.{turn_seen}
use Rattle.pool.proofs.seat.SessionSeat.unpin.Goals as goal

pub unpin-result-requires-clause-page : goal.unpin-result-requires-clause-page
unpin-result-requires-clause-page g c = as_held c.self.view_is c.begin_turn-hand.ensures.begins (λ h. IsPage c.args.p.now h) c.requires.page

pub unpin-result-requires-clause-pinned : goal.unpin-result-requires-clause-pinned
unpin-result-requires-clause-pinned g c = as_held c.self.view_is c.begin_turn-hand.ensures.begins (λ h. (page_of c.args.p.now.name h).pins ≡ 1) c.requires.pinned

pub unpin-result-requires-clause-buffer : goal.unpin-result-requires-clause-buffer
unpin-result-requires-clause-buffer g c = as_held c.self.view_is c.begin_turn-hand.ensures.begins (λ h. Fits (page_of c.args.p.now.name h).blocks h c.args.buf) c.requires.buffer

pub end_turn-requires-clause-may : goal.end_turn-requires-clause-may
end_turn-requires-clause-may g c =
    may_stay c.self.view_is c.begin_turn-hand.ensures.begins c.unpin-result.new.self
    (acts_both c.begin_turn-hand.result c.unpin-result.new.self _ _ c.unpin-result.result c.unpin-result.ensures.unpins.ok c.unpin-result.ensures.unpins.err) c.unpin-result.ensures.ready
    (stays_unpinned c.begin_turn-hand.result c.unpin-result.new.self c.begin_turn-hand.ensures.begins.ready c.unpin-result.result c.args.p.now.name c.args.buf.bytes
    (as_held c.self.view_is c.begin_turn-hand.ensures.begins (λ h. IsPage c.args.p.now h) c.requires.page).lives c.unpin-result.ensures.unpins.ok c.unpin-result.ensures.unpins.err)
    c.self.invariant

pub invariant_of-self : goal.invariant_of-self
invariant_of-self g c =
    sits_on c.self.view_is c.begin_turn-hand.ensures.begins c.unpin-result.new.self c.end_turn.ensures.ends
    (acts_both c.begin_turn-hand.result c.unpin-result.new.self _ _ c.unpin-result.result c.unpin-result.ensures.unpins.ok c.unpin-result.ensures.unpins.err) c.self.invariant

pub returns-clause-unpins : goal.returns-clause-unpins
returns-clause-unpins g c = unpins_on (turn_seen c.self.view_is c.begin_turn-hand.ensures.begins c.unpin-result.ensures.ready c.end_turn.ensures.ends c.end_turn.ensures.table c.requires.table) c.args.p.now c.args.buf c.unpin-result.result c.unpin-result.ensures.unpins
