use Rattle.std.proofs.Common.{sym, subst}
use Rattle.store_api.specs.Conditions.{IsLoan}
use Rattle.local_pool.proofs.Stepping.{held_at, step_keeps, step_makes}
use Rattle.local_pool.proofs.owned.Alone.free.Goals as goal

pub free-requires-clause-loan : goal.free-requires-clause-loan
free-requires-clause-loan g c = subst (IsLoan c.args.loan) (sym (held_at g.D.Slot c.self.inside.hand c.args.self.now c.self.view_is c.self.invariant.0)) c.requires

pub invariant_of-self : goal.invariant_of-self
invariant_of-self g c = step_keeps g.D.Slot c.self.inside.shelf c.self.inside.hand c.args.self.now c.self.view_is c.self.invariant c.free.new.self c.free.ensures.ready c.free.ensures.acts

pub returns : goal.returns
returns g c = step_makes g.D.Slot c.self.inside.shelf c.self.inside.hand c.args.self.now c.self.view_is c.self.invariant c.free.new.self c.free.ensures.ready c.free.ensures.acts
