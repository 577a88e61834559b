use Rattle.std.proofs.Common.{subst}
use Rattle.own_entries.specs.ClientLaws.{IsWholeIdle}
use Rattle.local_pool.proofs.Stepping.{held_at}
use Rattle.local_pool.proofs.owned.Alone.law_whole.Goals as goal

pub returns : goal.returns
returns g c = subst (IsWholeIdle) (held_at g.D.Slot c.self.inside.hand c.args.self.now c.self.view_is c.self.invariant.0) c.law_whole.ensures.whole
