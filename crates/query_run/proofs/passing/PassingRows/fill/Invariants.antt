use Rattle.std.proofs.Common.{◌≡◌, ◌≤◌, ◌*◌, ◌++◌, All, List, length}
use Rattle.row_codec.specs.declared.values.Value.{Value}
use Rattle.csv_edge.specs.Rows.{records_allowed}
use Rattle.query_run.specs.Batches.{first_rows}
use Rattle.query_run.specs.Feeding.{MayBeTaken}
use Rattle.query_run.specs.Passing.{HasGiven, HasGone, MayGiveMore}
use Rattle.query_run.specs.Plans.{kinds_of_columns}
use Rattle.query_run.specs.declared.passing.PassingRows.{PassingRows}
use Rattle.query_run.specs.declared.passing.Stage.TheVariants.{Reading}
use Rattle.query_run.proofs.passing.PassingRows.fill.Given as goal

abbrev pub invariant-loop-len : goal.invariant-loop-len
invariant-loop-len g l =
    (l.len ≤ length l.rows.items)
    × ((passing : List (List Value)) → HasGiven g.S.Source g.B.Reads.input l.initial.self passing → HasGiven g.S.Source g.B.Reads.input l.self (passing ++ first_rows l.len l.rows.items))
    × All (MayBeTaken (kinds_of_columns g.B.Reads.input.plan.left.columns) (16 * length g.B.Reads.input.plan.aggs) g.B.Reads.input.page) (first_rows l.len l.rows.items)
    × MayGiveMore g.S.Source g.B.Reads.input l.self
    × (l.self.stage ≡ Reading)
    × ((from : PassingRows g.row.S.Denot g.row.R.Denot g.row.B.Denot) → HasGone g.S.Source g.B.Reads.input from l.initial.self → HasGone g.S.Source g.B.Reads.input from l.self)

abbrev pub decreases-loop-len : goal.decreases-loop-len
decreases-loop-len g l = records_allowed l.self.rows
