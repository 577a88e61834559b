use Rattle.query_plan.proofs.Walks.{Walked}
use Rattle.query_plan.proofs.resolve.resolve_all.Given as goal

abbrev pub invariant-loop-place : goal.invariant-loop-place
invariant-loop-place g l = Walked (g.N.Resolve.judge l.names) (g.N.Resolve.make l.names) l.items l.place l.made.items
