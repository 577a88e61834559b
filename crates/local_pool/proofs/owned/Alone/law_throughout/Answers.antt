use Rattle.std.proofs.Common.{◌≡◌, subst}
use Rattle.pool_model.specs.Legal.{IsLegal, state_after}
use Rattle.pin_core.specs.StateOf.{state_of}
use Rattle.session_calls.specs.declared.hand.Hand.{Hand}
use Rattle.session_calls.specs.Throughout.{FitsThroughout}
use Rattle.session_calls.proofs.Throughout.{fits_throughout}
use Rattle.local_pool.specs.Told.{opening_of}
use Rattle.local_pool.proofs.owned.Alone.law_throughout.Goals as goal

pub returns-clause-legal : goal.returns-clause-legal
returns-clause-legal g c =
    subst (λ (own : Hand g.row.D.Denot). IsLegal (opening_of g.D.Slot own) own.trail) c.self.view_is c.self.invariant.0.ready.whole.stands.legal

pub returns-clause-state : goal.returns-clause-state
returns-clause-state g c =
    subst (λ (own : Hand g.row.D.Denot). state_of own.state ≡ state_after (opening_of g.D.Slot own) own.trail) c.self.view_is c.self.invariant.0.ready.whole.stands.state

pub returns-clause-fits : goal.returns-clause-fits
returns-clause-fits g c =
    subst (λ (own : Hand g.row.D.Denot). FitsThroughout (opening_of g.D.Slot own) own.trail) c.self.view_is
    (fits_throughout (opening_of g.D.Slot c.self.inside.hand) c.self.inside.hand.trail c.self.invariant.0.ready.whole.stands.legal)
