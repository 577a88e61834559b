use Rattle.pool_questions.proofs.CheckedClients.{seat_told}
use Rattle.pool_questions.proofs.clients.is_seat.Goals as goal

pub returns-then-s-lt-MAX_SESSIONS-clause-live : goal.returns-then-s-lt-MAX_SESSIONS-clause-live
returns-then-s-lt-MAX_SESSIONS-clause-live g c = λ is. seat_told c.parts-parts.result.now c.args.pool.now c.parts-parts.ensures.parts c.args.s (c.is_seated.ensures.0 is)
