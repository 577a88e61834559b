use Rattle.std.proofs.Common.{◌≡◌, ◌≤◌, ◌*◌, ◌^◌, take, sum_by}
use Rattle.query_plan.specs.Sizes.{slots_of}
use Rattle.query_plan.proofs.outputs.fitting_quotas.Given as goal

abbrev pub invariant-loop-query : goal.invariant-loop-query
invariant-loop-query l =
    (l.total ≡ sum_by slots_of (take l.query-index l.queries)) × (l.total ≤ l.query-index * 2 ^ 64)
