use Rattle.std.proofs.Common.{Some}
use Rattle.example_groups.proofs.in_pool_as.Given as goal

abbrev pub ghosts-in_session : goal.ghosts-in_session
ghosts-in_session g a = record { opening = g.T.Opened.opening; outset = g.T.Opened.outset; first = g.T.Opened.first; named = g.T.Opened.named; table = Some a.pool.now }
