use Rattle.std.proofs.Common.{◌∙◌, subst, arith, refl}
use Rattle.std.specs.Prelude.{⊤}
use Rattle.partition_stack.proofs.Left.{leaves_both}
use Rattle.partition_stack.proofs.Making.{few_none}
use Rattle.partition_stack.proofs.Results.{if_err, if_ok, on_err, on_ok}
use Rattle.partition_stack.specs.Stack.{over}
use Rattle.store_api.specs.declared.shapes.JoinShape.{JoinShape}
use Rattle.tuple_stream.specs.Trails.{EnteredEvents}
use Rattle.join_op.specs.Laid.{HoldsSides}
use Rattle.join_op.specs.Pairs.{pairs_of}
use Rattle.query_run.specs.Answer.{LineNumbers}
use Rattle.query_run.specs.Joined.{WrotePairs, WroteSomePairs}
use Rattle.query_run.proofs.Going.{of_pool_so}
use Rattle.query_run.proofs.JoinWants.{pairs_below}
use Rattle.query_run.proofs.Results.{both_ok, of_bad, of_done, of_ok}
use Rattle.query_run.proofs.Sides.{both_kept, few_kept, joined_answer, joined_front, joined_numbers}
use Rattle.query_run.proofs.Taken.{join_stops}
use Rattle.query_run.proofs.Counted.{both_fed, joined_whole}
use Rattle.query_run.proofs.Runs.{unread, wrote}
use Rattle.query_run.proofs.joined.answer.Goals as goal

pub returns-clause-outside : goal.returns-clause-outside
returns-clause-outside g c =
    let plan = c.args.plan.now in
    let asked = c.args.asked.now in
    let fed = c.feed_both-fed in
    let has = of_ok _ fed.result.0 c.in-Ok.fed c.in-Ok.is fed.ensures.ok in
    let shape = fed.ensures.goes.same.shape ∙ c.requires.begins.shape_is in
    let tells = fed.ensures.goes.leaves.others.told in
    let result = c.write_pairs-result.result in
    let text = g.K.Sink.contents in
    wrote g.S.Source g.K.Sink plan c.args.page _ _ _ result (of_done fed.result.0 c.in-Ok.fed c.in-Ok.is fed.ensures.read)
    (λ told. on_ok result (λ ok. joined_answer plan asked c.args.page c.requires.right c.requires.groups _ _ _ _ _ _ _ has
    (subst (λ (s : JoinShape). WrotePairs plan (pairs_of s has.lefts has.rights) (text c.args.sink.now) (text c.write_pairs-result.new.sink)) shape (ok _ _ _ has.kept (tells ∙ told)))) c.write_pairs-result.ensures.ok)
    (if_ok result (λ ran both. joined_numbers plan asked c.args.page c.requires.right _ _ _ _ _ _ ran has both.0.0 both.0.1 both.0.2
    (λ told. subst (λ (s : JoinShape). LineNumbers plan (pairs_of s has.lefts has.rights) ran) shape (both.1 _ _ _ has.kept (tells ∙ told))))
    (both_ok _ _ result c.write_pairs-result.ensures.read c.write_pairs-result.ensures.lines))
    c.write_pairs-result.ensures.cause
    (λ told. on_err result (λ err. joined_front plan asked c.args.page c.requires.right c.requires.groups _ _ _ _ _ _ _ has
    (subst (λ (s : JoinShape). WroteSomePairs plan (pairs_of s has.lefts has.rights) (text c.args.sink.now) (text c.write_pairs-result.new.sink)) shape (err _ _ _ has.kept (tells ∙ told)))) c.write_pairs-result.ensures.err)
    c.write_pairs-result.ensures.sink c.write_pairs-result.ensures.stops fed.ensures.sources_kept

pub returns-in-Err-clause-outside : goal.returns-in-Err-clause-outside
returns-in-Err-clause-outside g c =
    let fed = c.feed_both-fed in
    unread g.S.Source g.K.Sink c.args.plan.now c.args.page _ _ _ c.in-Err.e (of_bad _ fed.result.0 c.in-Err.e c.in-Err.is fed.ensures.input) (of_bad _ fed.result.0 c.in-Err.e c.in-Err.is fed.ensures.cause) refl fed.ensures.sources_kept

pub write_pairs-result-requires-clause-few : goal.write_pairs-result-requires-clause-few
write_pairs-result-requires-clause-few g c =
    let has = of_ok _ c.feed_both-fed.result.0 c.in-Ok.fed c.in-Ok.is c.feed_both-fed.ensures.ok in
    let left = few_kept _ _ _ _ _ _ _ has.lefts_fed in
    let right = few_kept _ _ _ _ _ _ _ has.rights_fed in
    omega (arith, left, right)

pub write_pairs-result-requires-clause-aggs : goal.write_pairs-result-requires-clause-aggs
write_pairs-result-requires-clause-aggs g c = c.requires.plan.none c.requires.groups

pub returns-clause-pool : goal.returns-clause-pool
returns-clause-pool g c = if_err c.write_pairs-result.result (λ e stopped. of_pool_so _ _ (λ why by. join_stops _ _ _ _ _ _ _ why c.feed_both-fed.ensures.goes by) e stopped) c.write_pairs-result.ensures.pool

pub returns-in-Err-clause-enough : goal.returns-in-Err-clause-enough
returns-in-Err-clause-enough g c =
    of_pool_so _ _ (λ why wants told. wants) c.in-Err.e (of_bad _ c.feed_both-fed.result.0 c.in-Err.e c.in-Err.is c.feed_both-fed.ensures.enough)

pub returns-clause-enough : goal.returns-clause-enough
returns-clause-enough g c =
    let has = of_ok _ c.feed_both-fed.result.0 c.in-Ok.fed c.in-Ok.is c.feed_both-fed.ensures.ok in
    let goes = c.feed_both-fed.ensures.goes in
    if_err c.write_pairs-result.result (λ e enough. of_pool_so _ _
    (λ why wants told. pairs_below c.args.plan.now c.args.asked.now c.args.page _ _ _ _ _ c.requires.right has c.args.op c.feed_both-fed.result.1 _ _ _ _ why goes (wants _ _ _ has.kept (goes.leaves.others.told ∙ told))) e enough) c.write_pairs-result.ensures.enough

pub returns-clause-slots : goal.returns-clause-slots
returns-clause-slots g c = c.write_pairs-result.ensures.slots ∙ c.feed_both-fed.ensures.goes.slots

pub returns-clause-kept : goal.returns-clause-kept
returns-clause-kept g c =
    let has = of_ok _ c.feed_both-fed.result.0 c.in-Ok.fed c.in-Ok.is c.feed_both-fed.ensures.ok in
    let goes = c.feed_both-fed.ensures.goes in
    let shape = goes.same.shape ∙ c.requires.begins.shape_is in
    let f = over c.write_pairs-result.new.op.left (g.St.Store.holds c.write_pairs-result.new.store) (g.St.Store.signs c.write_pairs-result.new.store) in
    let k = over c.write_pairs-result.new.op.right (g.St.Store.holds c.write_pairs-result.new.store) (g.St.Store.signs c.write_pairs-result.new.store) in
    on_ok c.write_pairs-result.result (λ kept. both_kept c.args.plan.now c.args.asked.now c.args.page _ _ _ _ _ f k _ _ has
    (subst (λ (s : JoinShape). EnteredEvents (HoldsSides s has.lefts has.rights f k ⊤) (g.St.Store.signs c.args.store.now).trail (g.St.Store.signs c.write_pairs-result.new.store).trail) shape (kept _ _ _ has.kept))) c.write_pairs-result.ensures.kept

pub returns-clause-op : goal.returns-clause-op
returns-clause-op g c = (c.write_pairs-result.ensures.op, c.write_pairs-result.ensures.client ∙ c.feed_both-fed.ensures.goes.same.client)

pub returns-clause-leaves : goal.returns-clause-leaves
returns-clause-leaves g c =
    let goes = c.feed_both-fed.ensures.goes in
    let then = c.write_pairs-result.ensures.leaves in
    leaves_both _ _ _ _ _ _ _ goes.leaves (rw goes.same.client at then)

pub returns-in-Err-clause-made : goal.returns-in-Err-clause-made
returns-in-Err-clause-made g c = λ told.
    let s1 = g.St.Store.signs c.feed_both-fed.new.store in
    both_fed c.args.plan.now c.args.asked.now c.requires.right (g.S.Source.remaining c.args.left.now) (g.S.Source.remaining c.args.right.now) (g.St.Store.signs c.args.store.now) s1 s1 c.feed_both-fed.ensures.made (few_none s1)

pub returns-clause-made : goal.returns-clause-made
returns-clause-made g c = λ told.
    let has = of_ok _ c.feed_both-fed.result.0 c.in-Ok.fed c.in-Ok.is c.feed_both-fed.ensures.ok in
    let goes = c.feed_both-fed.ensures.goes in
    joined_whole c.args.plan.now c.args.asked.now c.requires.right c.args.page _ _ _ (g.S.Source.remaining c.args.left.now) (g.S.Source.remaining c.args.right.now) has (g.St.Store.signs c.args.store.now) (g.St.Store.signs c.feed_both-fed.new.store) (g.St.Store.signs c.write_pairs-result.new.store)
    c.feed_both-fed.ensures.made (c.write_pairs-result.ensures.made _ has.lefts has.rights has.kept (goes.leaves.others.told ∙ told))
