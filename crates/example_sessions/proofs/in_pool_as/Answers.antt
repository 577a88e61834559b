use Rattle.std.proofs.Common.{ℕ, ap, ◌∙◌}
use Rattle.std.specs.Ordering.{nat_cmp}
use Rattle.std.specs.FinMap.{len-empty}
use Rattle.pool.specs.Seats.{live_in}
use Rattle.example_sessions.proofs.in_pool_as.Goals as goal

pub close-requires-clause-none : goal.close-requires-clause-none
close-requires-clause-none g c = c.with_sessions-seen.ensures.sessions ∙ ap live_in c.in-Ok.ensures.seen ∙ len-empty nat_cmp ℕ
