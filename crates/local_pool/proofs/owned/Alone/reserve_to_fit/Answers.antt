use Rattle.std.proofs.Common.{inr, refl, sym, subst}
use Rattle.store_api.specs.Changes.{query_growth, shortfall}
use Rattle.store_api.specs.Conditions.{IsLiveClient}
use Rattle.local_pool.specs.Told.{held_of}
use Rattle.local_pool.proofs.Knowing.{above_at, granted}
use Rattle.session_calls.proofs.Carried.{reserves_to_fit_on}
use Rattle.local_pool.proofs.Stepping.{came_or_same, held_at, turn_viewed}
use Rattle.local_pool.proofs.owned.Alone.reserve_to_fit.Goals as goal

pub reserve_to_fit-requires-clause-above : goal.reserve_to_fit-requires-clause-above
reserve_to_fit-requires-clause-above g c = inr (refl, c.self.invariant.0.alone)

pub reserve_to_fit-requires-clause-client : goal.reserve_to_fit-requires-clause-client
reserve_to_fit-requires-clause-client g c = subst (IsLiveClient c.args.c.now) (sym (held_at g.D.Slot c.self.inside.hand c.args.self.now c.self.view_is c.self.invariant.0)) c.requires.client

pub invariant_of-self : goal.invariant_of-self
invariant_of-self g c = came_or_same g.D.Slot c.self.inside.shelf c.self.inside.hand c.args.self.now c.self.view_is c.self.invariant c.reserve_to_fit.new.self c.reserve_to_fit.ensures.ready _ c.reserve_to_fit.result c.reserve_to_fit.ensures.reserves.ok c.reserve_to_fit.ensures.reserves.err

pub returns-clause-reserves : goal.returns-clause-reserves
returns-clause-reserves g c = reserves_to_fit_on (turn_viewed g.D.Slot c.self.inside.shelf c.self.inside.hand c.args.self.now c.self.view_is c.self.invariant c.reserve_to_fit.new.self c.reserve_to_fit.ensures.ready) c.args.c.now.tracker c.args.bytes c.reserve_to_fit.result c.reserve_to_fit.ensures.reserves

pub returns-clause-granted : goal.returns-clause-granted
returns-clause-granted g c =
    granted _ (query_growth (shortfall c.args.c.now.tracker c.args.bytes (held_of g.D.Slot c.args.self.now)) (held_of g.D.Slot c.args.self.now)) (held_of g.D.Slot c.args.self.now).above c.reserve_to_fit.result
    (above_at g.D.Slot c.self.inside.hand c.args.self.now c.self.view_is c.self.invariant.0)
    (reserves_to_fit_on (turn_viewed g.D.Slot c.self.inside.shelf c.self.inside.hand c.args.self.now c.self.view_is c.self.invariant c.reserve_to_fit.new.self c.reserve_to_fit.ensures.ready) c.args.c.now.tracker c.args.bytes c.reserve_to_fit.result c.reserve_to_fit.ensures.reserves).shared
