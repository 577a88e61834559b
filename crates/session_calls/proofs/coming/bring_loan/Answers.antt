use Rattle.std.proofs.Common.{ℕ, [], refl, ap, ◌∙◌, subst}
use Rattle.pool_model.specs.declared.event.Event.TheVariants.{Alloc}
use Rattle.store_api.specs.Tokens.{ClientToken}
use Rattle.pin_core.specs.Standing.{Enters}
use Rattle.pin_core.specs.calls.Coming.{alloc_entries}
use Rattle.session_calls.specs.declared.hand.Hand.{Hand}
use Rattle.session_calls.proofs.Arriving.{goes_evicting}
use Rattle.session_calls.proofs.coming.bring_loan.Goals as goal

pub returns-clause-goes : goal.returns-clause-goes
returns-clause-goes g c =
    let hand : Hand g.row.D.Denot = c.args.hand.now in
    let new : Hand g.row.D.Denot = record { state = c.alloc_now-loan.new.self; trail = c.enter.new.trail; counts = hand.counts; session = hand.session; gone = c.alloc_now-loan.new.gone } in
    goes_evicting g.D.Slot hand new c.args.shell (Alloc c.alloc_now-loan.result.number c.args.client c.args.shell) (Alloc c.number.result c.args.client c.room-blocks.result)
    c.enter_evicted.new.trail c.alloc_now-loan.new.gone c.alloc_now-loan.ensures.gone c.enter_evicted.ensures c.enter.ensures
    (ap (λ (n : ℕ). Alloc n c.args.client c.room-blocks.result) c.number.ensures ∙ ap (Alloc c.alloc_now-loan.result.number c.args.client) c.room-blocks.ensures) refl refl
    (subst (λ (k : ClientToken). Enters g.D.Slot (alloc_entries k c.alloc_now-loan.result.number c.args.shell hand.state) [] [] hand.state new.state) c.of-mine.ensures c.alloc_now-loan.ensures.enters)
