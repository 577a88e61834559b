use Rattle.query_plan.specs.Names.{group_fault}
use Rattle.query_plan.specs.Resolved.{group_on}
use Rattle.query_plan.proofs.Walks.{Walked}
use Rattle.query_plan.proofs.repeats.resolve_group.Given as goal

abbrev pub invariant-loop-place : goal.invariant-loop-place
invariant-loop-place l = Walked (group_fault l.columns l.names l.path) (group_on l.columns) l.names l.place l.made.items
