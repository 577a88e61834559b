use Rattle.std.proofs.Common.{inr, refl, sym, subst}
use Rattle.store_api.specs.Changes.{query_growth}
use Rattle.store_api.specs.Conditions.{IsLiveClient}
use Rattle.local_pool.specs.Told.{held_of}
use Rattle.local_pool.proofs.Knowing.{above_at, granted}
use Rattle.session_calls.proofs.Carried.{reserves_on}
use Rattle.local_pool.proofs.Stepping.{came_or_same, held_at, turn_viewed}
use Rattle.local_pool.proofs.owned.Alone.reserve.Goals as goal

pub reserve-requires-clause-above : goal.reserve-requires-clause-above
reserve-requires-clause-above g c = inr (refl, c.self.invariant.0.alone)

pub reserve-requires-clause-client : goal.reserve-requires-clause-client
reserve-requires-clause-client g c = subst (IsLiveClient c.args.c.now) (sym (held_at g.D.Slot c.self.inside.hand c.args.self.now c.self.view_is c.self.invariant.0)) c.requires.client

pub invariant_of-self : goal.invariant_of-self
invariant_of-self g c = came_or_same g.D.Slot c.self.inside.shelf c.self.inside.hand c.args.self.now c.self.view_is c.self.invariant c.reserve.new.self c.reserve.ensures.ready _ c.reserve.result c.reserve.ensures.reserves.ok c.reserve.ensures.reserves.err

pub returns-clause-reserves : goal.returns-clause-reserves
returns-clause-reserves g c = reserves_on (turn_viewed g.D.Slot c.self.inside.shelf c.self.inside.hand c.args.self.now c.self.view_is c.self.invariant c.reserve.new.self c.reserve.ensures.ready) c.args.c.now.tracker c.args.bytes c.reserve.result c.reserve.ensures.reserves

pub returns-clause-granted : goal.returns-clause-granted
returns-clause-granted g c =
    granted _ (query_growth c.args.bytes (held_of g.D.Slot c.args.self.now)) (held_of g.D.Slot c.args.self.now).above c.reserve.result
    (above_at g.D.Slot c.self.inside.hand c.args.self.now c.self.view_is c.self.invariant.0)
    (reserves_on (turn_viewed g.D.Slot c.self.inside.shelf c.self.inside.hand c.args.self.now c.self.view_is c.self.invariant c.reserve.new.self c.reserve.ensures.ready) c.args.c.now.tracker c.args.bytes c.reserve.result c.reserve.ensures.reserves).shared
