use Rattle.std.proofs.Common.{◌≤◌, sym, subst}
use Rattle.store_api.specs.Holdings.{Holdings, page_of}
use Rattle.store_api.specs.Conditions.{IsPage}
use Rattle.local_pool.proofs.Stepping.{held_at, step_keeps, step_makes}
use Rattle.local_pool.proofs.owned.Alone.unpin_once.Goals as goal

pub unpin_once-requires-clause-page : goal.unpin_once-requires-clause-page
unpin_once-requires-clause-page g c = subst (IsPage c.args.p.now) (sym (held_at g.D.Slot c.self.inside.hand c.args.self.now c.self.view_is c.self.invariant.0)) c.requires.page

pub unpin_once-requires-clause-pinned : goal.unpin_once-requires-clause-pinned
unpin_once-requires-clause-pinned g c =
    subst (λ (h : Holdings). 2 ≤ (page_of c.args.p.now.name h).pins) (sym (held_at g.D.Slot c.self.inside.hand c.args.self.now c.self.view_is c.self.invariant.0)) c.requires.pinned

pub invariant_of-self : goal.invariant_of-self
invariant_of-self g c =
    step_keeps g.D.Slot c.self.inside.shelf c.self.inside.hand c.args.self.now c.self.view_is c.self.invariant c.unpin_once.new.self c.unpin_once.ensures.ready c.unpin_once.ensures.acts

pub returns : goal.returns
returns g c =
    step_makes g.D.Slot c.self.inside.shelf c.self.inside.hand c.args.self.now c.self.view_is c.self.invariant c.unpin_once.new.self c.unpin_once.ensures.ready c.unpin_once.ensures.acts
