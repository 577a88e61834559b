use Rattle.std.proofs.Common.{◌≡◌, drop}
use Rattle.query_plan.specs.Columns.{named, named_from}
use Rattle.query_plan.proofs.columns.find_column.Given as goal

abbrev pub invariant-loop-place : goal.invariant-loop-place
invariant-loop-place l = named l.name l.columns ≡ named_from l.name l.place (drop l.place l.columns)
