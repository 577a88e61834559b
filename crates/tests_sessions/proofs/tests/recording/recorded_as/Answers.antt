use Rattle.std.proofs.Common.{ℕ, ap, ◌∙◌}
use Rattle.std.specs.Ordering.{nat_cmp}
use Rattle.std.specs.FinMap.{len-empty}
use Rattle.pool.specs.Seats.{live_in}
use Rattle.tests_sessions.proofs.tests.recording.recorded_as.Goals as goal

pub close_traced-slots-requires-clause-none : goal.close_traced-slots-requires-clause-none
close_traced-slots-requires-clause-none g c = c.play_scene.ensures.count.sessions ∙ ap live_in c.in-Ok.ensures.seen ∙ len-empty nat_cmp ℕ

pub close_traced-slots-requires-clause-no_writer : goal.close_traced-slots-requires-clause-no_writer
close_traced-slots-requires-clause-no_writer g c = c.play_scene.ensures.count.writers ∙ c.in-Ok.ensures.writers.1
