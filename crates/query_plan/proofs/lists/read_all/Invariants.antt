use Rattle.std.proofs.Common.{map}
use Rattle.toml.specs.View.{view}
use Rattle.query_plan.specs.Faults.{member_in}
use Rattle.query_plan.proofs.Walks.{Walked}
use Rattle.query_plan.proofs.lists.read_all.Given as goal

abbrev pub invariant-loop-place : goal.invariant-loop-place
invariant-loop-place g l =
    Walked (λ place item. g.R.Rule.check l.member (member_in l.path place) item) (g.R.Rule.made l.member)
    (map (λ item. view item) l.items) l.place l.made.items
