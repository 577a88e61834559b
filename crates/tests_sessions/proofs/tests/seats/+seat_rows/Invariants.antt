use Rattle.std.proofs.Common.{◌-◌, length}
use Rattle.tests_sessions.proofs.tests.seats.+seat_rows.Given as goal

-- each row leaves one fewer
abbrev pub decreases-seat_rows : goal.decreases-seat_rows
decreases-seat_rows g l = length l.rows.now - l.at
