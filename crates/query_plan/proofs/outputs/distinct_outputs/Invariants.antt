use Rattle.std.proofs.Common.{◌≡◌, drop}
use Rattle.query_plan.specs.Faults.{first_from}
use Rattle.query_plan.specs.PlanOf.{output_fault}
use Rattle.query_plan.proofs.outputs.distinct_outputs.Given as goal

abbrev pub invariant-loop-place : goal.invariant-loop-place
invariant-loop-place l =
    first_from (output_fault l.queries) 0 l.queries ≡ first_from (output_fault l.queries) l.place (drop l.place l.queries)
