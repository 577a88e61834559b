use Rattle.std.proofs.Common.{Some}
use Rattle.example_sessions.proofs.in_pool_as.Given as goal

abbrev pub ghosts-with_sessions : goal.ghosts-with_sessions
ghosts-with_sessions g a = record { opening = g.T.Opened.opening; outset = g.T.Opened.outset; first = g.T.Opened.first; named = g.T.Opened.named; table = Some a.pool.now }
