use Rattle.std.proofs.Common.{refl}
use Rattle.tests_pool.proofs.tests.steps.move_reservation.Goals as goal

pub move_now-requires-clause-client : goal.move_now-requires-clause-client
move_now-requires-clause-client g c = c.if-assert.ensures refl
