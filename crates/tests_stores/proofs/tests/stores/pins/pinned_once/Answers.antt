use Rattle.std.proofs.Common.{◌∙◌, ap}
use Rattle.store_api.specs.Holdings.{Holdings}
use Rattle.store_api.specs.Changes.{after_unpin_once}
use Rattle.tests_stores.proofs.PinsUndone.{two_undone}
use Rattle.tests_stores.proofs.tests.stores.pins.pinned_once.Goals as goal

pub returns-clause-ok : goal.returns-clause-ok
returns-clause-ok g c =
    let p = c.in_ok-page.page.name in
    c.unpin_once-2.ensures.value ∙ ap (after_unpin_once p) c.unpin_once.ensures.value
    ∙ ap (λ (h : Holdings). after_unpin_once p (after_unpin_once p h)) c.in_ok-page.ensures.ok
    ∙ two_undone p c.in_ok-page.page.key c.args.c.now.tracker (g.St.Store.holds c.args.store.now) c.requires.client c.requires.unused
