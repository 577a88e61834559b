use Rattle.std.proofs.Common.{◌≡◌, ◌<◌, ◌*◌, ◌++◌, ◌∷◌, [], arith, length, rules, slice_index_or, subst, sym}
use Rattle.group_op.specs.Operator.{page_of}
use Rattle.query_run.specs.Batches.{first_rows}
use Rattle.query_run.specs.Feeding.{MayBeTaken}
use Rattle.query_run.specs.Taking.{GroupFeeds}
use Rattle.query_run.proofs.Batched.{first_at, first_more}
use Rattle.query_run.proofs.Taken.{group_still}
use Rattle.query_run.proofs.fed_batches.feed_rows.Goals as goal

pub take-requires-clause-row : goal.take-requires-clause-row
take-requires-clause-row g c =
    let inv = c.loop-place.invariant in
    let still = group_still c.args.op.now c.loop-place.op _ _ _ _ inv.2 in
    let below : c.loop-place.place < c.args.len = search (rules, arith) in
    let row = first_at (MayBeTaken c.args.op.now.shape.kinds (16 * length c.args.op.now.shape.aggs) (page_of c.args.op.now (g.St.Store.holds c.args.store.now))) c.args.len c.loop-place.place c.args.rows.now c.index-rows-place.result c.requires.has below c.requires.rows in
    let is : c.as_slice.result.now ≡ (slice_index_or c.args.rows.now c.loop-place.place c.index-rows-place.result).items = search rules in
    rw (is, still.kinds_same, still.extra_same, still.page_same) row

pub loop-place-preserved : goal.loop-place-preserved
loop-place-preserved g c =
    let inv = c.loop-place.invariant in
    let below : c.loop-place.place < length c.args.rows.now = search (rules, arith) in
    let is : c.as_slice.result.now ≡ (slice_index_or c.args.rows.now c.loop-place.place c.index-rows-place.result).items = search rules in
    let more = first_more c.loop-place.place c.args.rows.now c.index-rows-place.result below in
    let fed : GroupFeeds c.args.op.now c.take.new.self (first_rows c.loop-place.place c.args.rows.now ++ c.as_slice.result.now ∷ []) _ _ _ _ = c.in_ok-take.ensures.ok c.args.op.now (first_rows c.loop-place.place c.args.rows.now) _ _ inv.0 in (
      rw (more, sym is) fed,
      c.take.ensures.stands,
      c.take.ensures.goes c.args.op.now _ _ inv.2,
    )

pub returns-clause-ok : goal.returns-clause-ok
returns-clause-ok g c =
    let all : c.loop-place.place ≡ c.args.len = search (rules, arith) in
    subst (λ n. GroupFeeds c.args.op.now c.loop-place.op (first_rows n c.args.rows.now) (g.St.Store.holds c.args.store.now) (g.St.Store.holds c.loop-place.store) (g.St.Store.signs c.args.store.now) (g.St.Store.signs c.loop-place.store)) all c.loop-place.invariant.0
