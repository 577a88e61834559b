use Rattle.std.proofs.Common.{◌≡◌, ◌≢◌, Some, map, rules}
use Rattle.toml.specs.View.{view}
use Rattle.query_plan.specs.declared.error.PlanErr.TheVariants.{Memory}
use Rattle.query_plan.specs.Faults.{first_from, member_in}
use Rattle.query_plan.proofs.Items.{at_view, length_view}
use Rattle.query_plan.proofs.Walks.{walk_stops, walk_on}
use Rattle.query_plan.proofs.lists.read_all.Goals as goal

pub returns-in_err-it-clause-tells : goal.returns-in_err-it-clause-tells
returns-in_err-it-clause-tells g c =
    let first : c.in_err-it.field-0.0 ≢ Memory
    → first_from (λ place item. g.R.Rule.check c.args.member.now (member_in c.args.path.now place) item) 0 (map (λ item. view item) c.args.items.now) ≡ Some c.in_err-it.field-0.0 =
    λ other. walk_stops _ _ _ c.loop-place.place _ _ _ c.loop-place.invariant (rw (length_view view c.args.items.now) c.loop-place-test.true)
    (at_view view _ _ _ c.loop-place-test.true c.index-items-place.is) (c.in_err-it.ensures.tells other) in
    search rules

pub loop-place-preserved : goal.loop-place-preserved
loop-place-preserved g c =
    rw c.in_ok-push.ensures.items
    (walk_on _ _ _ c.loop-place.place _ _ _ c.loop-place.invariant (rw (length_view view c.args.items.now) c.loop-place-test.true)
    (at_view view _ _ _ c.loop-place-test.true c.index-items-place.is) c.in_ok-it.ensures.clears c.in_ok-it.ensures.made)
