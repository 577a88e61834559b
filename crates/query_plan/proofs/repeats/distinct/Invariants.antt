use Rattle.std.proofs.Common.{◌≡◌, drop}
use Rattle.query_plan.specs.Faults.{first_from}
use Rattle.query_plan.specs.Names.{repeat_fault}
use Rattle.query_plan.proofs.repeats.distinct.Given as goal

abbrev pub invariant-loop-place : goal.invariant-loop-place
invariant-loop-place l =
    first_from (repeat_fault l.columns l.path) 0 l.columns ≡ first_from (repeat_fault l.columns l.path) l.place (drop l.place l.columns)
