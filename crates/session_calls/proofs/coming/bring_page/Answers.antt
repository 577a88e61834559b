use Rattle.std.proofs.Common.{ℕ, [], refl, ap, ◌∙◌, subst}
use Rattle.pool_model.specs.declared.event.Event.TheVariants.{Create}
use Rattle.store_api.specs.Tokens.{ClientToken}
use Rattle.pin_core.specs.Standing.{Enters}
use Rattle.pin_core.specs.calls.Needs.{id_in}
use Rattle.pin_core.specs.calls.Coming.{create_entries}
use Rattle.session_calls.specs.declared.hand.Hand.{Hand}
use Rattle.session_calls.proofs.Arriving.{goes_evicting}
use Rattle.session_calls.proofs.coming.bring_page.Goals as goal

pub returns-clause-goes : goal.returns-clause-goes
returns-clause-goes g c =
    let hand : Hand g.row.D.Denot = c.args.hand.now in
    let new : Hand g.row.D.Denot = record { state = c.create_now-made.new.self; trail = c.enter.new.trail; counts = hand.counts; session = hand.session; gone = c.create_now-made.new.gone } in
    goes_evicting g.D.Slot hand new c.args.shell (Create c.in-Ok.page.name c.args.client c.args.shell c.in-Ok.page.key) (Create c.name.result c.args.client c.room-blocks.result c.key.result)
    c.enter_evicted.new.trail c.create_now-made.new.gone c.in-Ok.ensures.gone c.enter_evicted.ensures c.enter.ensures
    (ap (λ (n : ℕ). Create n c.args.client c.room-blocks.result c.key.result) c.name.ensures ∙ ap (λ (n : ℕ). Create c.in-Ok.page.name c.args.client n c.key.result) c.room-blocks.ensures
    ∙ ap (Create c.in-Ok.page.name c.args.client c.args.shell) c.key.ensures) refl refl
    (subst (λ (k : ClientToken). Enters g.D.Slot (create_entries k (id_in c.in-Ok.page) c.args.shell hand.state) [] [] hand.state new.state) c.of-mine.ensures c.in-Ok.ensures.enters)
