use Rattle.spill_top.proofs.count.count.Given as goal

abbrev pub ghosts-run_watched : goal.ghosts-run_watched
ghosts-run_watched g a = record { before = g.R.Sink.contents a.watched.sink.now; name = a.watched.sink.ghost_name }
