use Rattle.std.proofs.Common.{◌*◌, length}
use Rattle.query_run.specs.Batches.{MayBeFed}
use Rattle.query_run.specs.Plans.{kinds_of_columns}
use Rattle.query_run.proofs.parallel.feed_rows.Given as goal

abbrev pub ghosts-deal : goal.ghosts-deal
ghosts-deal g a = record { admits = MayBeFed (kinds_of_columns g.B.Reads.input.plan.left.columns) (16 * length g.B.Reads.input.plan.aggs) g.B.Reads.input.page }
