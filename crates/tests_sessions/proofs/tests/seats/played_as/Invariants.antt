use Rattle.std.proofs.Common.{Some}
use Rattle.tests_sessions.proofs.tests.seats.played_as.Given as goal

abbrev pub ghosts-play_scene : goal.ghosts-play_scene
ghosts-play_scene g a = record { opening = g.T.Opened.opening; outset = g.T.Opened.outset; first = g.T.Opened.first; named = g.T.Opened.named; table = Some a.pool.now }
