-- What `retain` leaves.
use Rattle.std.proofs.Common.{◌≡◌, IsSome, eqb, not, sym, subst, rules, tests}
use Rattle.std.proofs.lemmas.Fn.{filter_same}
use Rattle.pool.specs.declared.account.ClientAccount.{ClientAccount}
use Rattle.pool.specs.Unused.{AreProper, unused_in}
use Rattle.pool.proofs.Changes.{without, unused_removed, length_removed}
use Rattle.pool.proofs.Kept.{proper_removed}
use Rattle.pool.proofs.accounts.ClientAccounts.remove.Goals as goal

left : (c : goal.After-retain) → c.retain.new.self.items ≡ without c.args.tracker c.self.inside.accounts.items
left c = filter_same _ (λ (a : ClientAccount). not (eqb a.tracker c.args.tracker)) _ (λ x b f' k. search (rules, tests)) _ _ c.retain.ensures.filtered

there : (c : goal.After-retain) → IsSome (unused_in c.self.inside.accounts.items c.args.tracker)
there c = rw (← c.self.view_is) at c.requires

pub invariant_of-self : goal.invariant_of-self
invariant_of-self c = (
  subst AreProper (sym (left c)) (proper_removed c.self.inside.accounts.items c.args.tracker c.self.invariant.0 (there c)),
  rw c.retain.ensures.capacity c.self.invariant.1,
)

pub returns-clause-unused : goal.returns-clause-unused
returns-clause-unused c = rw (left c, ← c.self.view_is) (unused_removed c.self.inside.accounts.items c.args.tracker)

pub returns-clause-count : goal.returns-clause-count
returns-clause-count c = rw (left c, ← c.self.view_is) (length_removed c.self.inside.accounts.items c.self.invariant.0.distinct c.args.tracker (there c))
