use Rattle.query_run.specs.Passing.{input_of}
use Rattle.query_run.proofs.parallel.feed_parallel.Given as goal

abbrev pub ghosts-feed_all : goal.ghosts-feed_all
ghosts-feed_all g a = record { input = input_of g.S.Source a.plan.now a.page a.left.now }
