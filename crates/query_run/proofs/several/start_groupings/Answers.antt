use Rattle.std.proofs.Common.{◌≡◌, ◌+◌, ◌<◌, ◌++◌, ◌∷◌, [], arith, length, rules, slice_index_or, slice_set, subst, sym}
use Rattle.query_run.specs.Several.{HaveStartedTo, IsGivenBack}
use Rattle.query_run.proofs.Stores.{all_back, may_feed, one_more_started, started_there}
use Rattle.query_run.proofs.several.start_groupings.Goals as goal

pub end_first-requires-clause-are : goal.end_first-requires-clause-are
end_first-requires-clause-are g c = λ k d f below.
    let inv = c.loop-place.invariant in
    started_there g.St.Store c.args.plan.now c.loop-place.place c.args.stores.now c.loop-place.stores c.loop-place.ops.items c.start_one.new.store inv.2 k d f (omega (arith, below, inv.0))

pub returns-in-Err-clause-err : goal.returns-in-Err-clause-err
returns-in-Err-clause-err g c =
    let inv = c.loop-place.invariant in
    let many : length c.loop-place.ops.items ≡ c.loop-place.place = search rules in
    let below : c.loop-place.place < length c.args.stores.now = search (rules, arith) in
    let back : IsGivenBack (g.St.Store.holds (slice_index_or c.loop-place.stores c.loop-place.place c.index-stores-place.result)) (g.St.Store.holds c.start_one.new.store) (g.St.Store.signs (slice_index_or c.loop-place.stores c.loop-place.place c.index-stores-place.result)) (g.St.Store.signs c.start_one.new.store) = c.in-Err.ensures.err in
    all_back g.St.Store c.args.plan.now c.loop-place.place c.args.stores.now c.loop-place.stores c.end_first.new.stores c.loop-place.ops.items c.index-stores-place.result c.start_one.new.store below many c.requires.stores.room inv.2 back c.end_first.ensures

pub loop-place-preserved : goal.loop-place-preserved
loop-place-preserved g c =
    let inv = c.loop-place.invariant in
    let many : length c.loop-place.ops.items ≡ c.loop-place.place = search rules in
    let below : c.loop-place.place < length c.args.stores.now = search (rules, arith) in
    let more = one_more_started g.St.Store c.args.plan.now c.loop-place.place c.args.stores.now c.loop-place.stores c.loop-place.ops.items c.in-Ok.op c.index-stores-place.result c.start_one.new.store below many inv.2 c.in-Ok.ensures.works c.in-Ok.ensures.begins c.in-Ok.ensures.blocks c.in-Ok.ensures.len in
    let items : c.push_reserved.new.self.items ≡ c.loop-place.ops.items ++ c.in-Ok.op ∷ [] = search rules in (
      search (rules, arith),
      search (rules, arith),
      subst (λ l. HaveStartedTo g.St.Store c.args.plan.now (c.loop-place.place + 1) c.args.stores.now (slice_set c.loop-place.stores c.loop-place.place c.start_one.new.store) l) (sym items) more,
    )

pub returns-clause-feed : goal.returns-clause-feed
returns-clause-feed g c =
    let inv = c.loop-place.invariant in
    let stores = c.args.stores.now in
    let all : c.loop-place.place ≡ length stores = search (rules, arith) in
    let many : length c.loop-place.ops.items ≡ length stores = search (rules, arith, inv.0, all) in
    may_feed g.St.Store c.args.plan.now stores c.loop-place.stores c.loop-place.ops.items c.requires.stores many (subst (λ n. HaveStartedTo g.St.Store c.args.plan.now n stores c.loop-place.stores c.loop-place.ops.items) all inv.2)
