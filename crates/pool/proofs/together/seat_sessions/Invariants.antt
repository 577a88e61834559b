use Rattle.pool.specs.Admitting.{items_since}
use Rattle.pool.proofs.together.seat_sessions.Given as goal

abbrev pub ghosts-leave_admitted : goal.ghosts-leave_admitted
ghosts-leave_admitted g a = record { entries = items_since a.seat.now.knows.seen a.shared.trail }
