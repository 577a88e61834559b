use Rattle.std.specs.Prelude.{Some}
use Rattle.spill_top.proofs.pooled.run_counted.Given as goal

abbrev pub ghosts-run_seated : goal.ghosts-run_seated
ghosts-run_seated g a = record { opening = g.T.Opened.opening; outset = g.T.Opened.outset; first = g.T.Opened.first; named = g.T.Opened.named; table = Some a.pool.now }
