use Rattle.std.proofs.Common.{◌≡◌, ◌≢◌, Some, rules}
use Rattle.query_plan.specs.declared.error.PlanErr.TheVariants.{Memory}
use Rattle.query_plan.specs.Faults.{first_from}
use Rattle.query_plan.proofs.Walks.{walk_stops, walk_on}
use Rattle.query_plan.proofs.resolve.resolve_all.Goals as goal

pub returns-in_err-it-clause-tells : goal.returns-in_err-it-clause-tells
returns-in_err-it-clause-tells g c =
    let first : c.in_err-it.field-0.0 ≢ Memory → first_from (g.N.Resolve.judge c.args.names.now) 0 c.args.items.now ≡ Some c.in_err-it.field-0.0 =
    λ other. walk_stops _ _ _ c.loop-place.place _ _ _ c.loop-place.invariant c.loop-place-test.true c.index-items-place.is (c.in_err-it.ensures.tells other) in
    search rules

pub loop-place-preserved : goal.loop-place-preserved
loop-place-preserved g c =
    rw c.in_ok-push.ensures.items
    (walk_on _ _ _ c.loop-place.place _ _ _ c.loop-place.invariant c.loop-place-test.true c.index-items-place.is
    c.in_ok-it.ensures.clears c.in_ok-it.ensures.made)
