use Rattle.tests_sessions.proofs.tests.seats.+seat_more.Given as goal

-- each session more leaves one fewer to come
abbrev pub decreases-seat_more : goal.decreases-seat_more
decreases-seat_more g l = l.more
