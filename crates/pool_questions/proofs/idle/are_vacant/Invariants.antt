use Rattle.std.proofs.Common.{◌≡◌, ℕ, ◌<◌, None}
use Rattle.session_table.specs.Seats.{seat_of}
use Rattle.pool_questions.proofs.idle.are_vacant.Given as goal

abbrev pub invariant-loop-s : goal.invariant-loop-s
invariant-loop-s l = (k : ℕ) → k < l.s → seat_of l.seats k ≡ None
