use Rattle.std.specs.Prelude.{Some}
use Rattle.spill_top.proofs.queries.run_shared.Given as goal

abbrev pub ghosts-run_together : goal.ghosts-run_together
ghosts-run_together g a = record { opening = g.T.Opened.opening; outset = g.T.Opened.outset; first = g.T.Opened.first; named = g.T.Opened.named; table = Some a.pool.now }
