use Rattle.std.proofs.Common.{ℕ, ap, ◌∙◌}
use Rattle.std.specs.Ordering.{nat_cmp}
use Rattle.std.specs.FinMap.{len-empty}
use Rattle.pool.specs.Seats.{live_in}
use Rattle.tests_sessions.proofs.tests.seats.played_as.Goals as goal

pub close-requires-clause-none : goal.close-requires-clause-none
close-requires-clause-none g c = c.play_scene.ensures.count.sessions ∙ ap live_in c.in-Ok.ensures.seen ∙ len-empty nat_cmp ℕ

pub close-requires-clause-no_writer : goal.close-requires-clause-no_writer
close-requires-clause-no_writer g c = c.play_scene.ensures.count.writers ∙ c.in-Ok.ensures.writers.1
