use Rattle.std.proofs.Common.{sym, subst}
use Rattle.pool.specs.Unused.{AreProper}
use Rattle.pool.proofs.Kept.{proper_empty}
use Rattle.pool.proofs.accounts.ClientAccounts.open.Goals as goal

pub invariant_of-result : goal.invariant_of-result
invariant_of-result c = (subst AreProper (sym c.in_ok-accounts.ensures.items) proper_empty, c.in_ok-accounts.ensures.capacity)
