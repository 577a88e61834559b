use Rattle.std.proofs.Common.{ap, ◌∙◌, subst}
use Rattle.store_api.specs.Holdings.{Holdings}
use Rattle.store_api.specs.Conditions.{FitsQuery}
use Rattle.local_pool.proofs.Stepping.{held_at}
use Rattle.local_pool.proofs.owned.Alone.room.Goals as goal

pub returns-clause-value : goal.returns-clause-value
returns-clause-value g c = c.room.ensures.value ∙ ap (λ (h : Holdings). h.room) (held_at g.D.Slot c.self.inside.hand c.args.self.now c.self.view_is c.self.invariant.0)

pub returns-clause-fits : goal.returns-clause-fits
returns-clause-fits g c = subst (FitsQuery) (held_at g.D.Slot c.self.inside.hand c.args.self.now c.self.view_is c.self.invariant.0) c.room.ensures.fits
