use Rattle.query_run.specs.Plans.{shape_of}
use Rattle.query_run.proofs.both.write_both.Given as goal

abbrev pub ghosts-join_into : goal.ghosts-join_into
ghosts-join_into g a = record { client = a.second; shape = shape_of a.plan.now; blocks = a.plan.now.page_blocks }
