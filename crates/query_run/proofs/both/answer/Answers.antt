use Rattle.std.proofs.Common.{◌≡◌, ◌∙◌, ◌<◌, ◌+◌, ◌*◌, ◌++◌, ℕ, Some, length, ap, refl, sym, subst, arith, rules}
use Rattle.std.specs.Io.KnownBytes.{Appends}
use Rattle.csv_edge.specs.Written.{AppendsFront}
use Rattle.store_api.proofs.Answered.{answered_after}
use Rattle.store_api.proofs.Growing.{grows_trans}
use Rattle.store_api.specs.Changes.{after_end_client}
use Rattle.store_api.specs.Holdings.{Holdings}
use Rattle.store_api.specs.Tokens.{ClientToken}
use Rattle.store_api.specs.declared.shapes.JoinShape.{JoinShape}
use Rattle.tuple_stream.specs.Trails.{EnteredEvents}
use Rattle.partition_stack.specs.Leaving.{LeavesOthers}
use Rattle.partition_stack.proofs.Emitters.{left_beside}
use Rattle.partition_stack.specs.Making.{MakesFew}
use Rattle.partition_stack.specs.Slots.{IsWant, IsWantBelow}
use Rattle.partition_stack.proofs.Left.{leaves_both}
use Rattle.partition_stack.proofs.Making.{few_both}
use Rattle.partition_stack.proofs.Results.{if_err, if_ok, on_err, on_ok}
use Rattle.join_op.specs.Operator.{slots_for}
use Rattle.join_op.specs.Pairs.{pairs_of}
use Rattle.query_run.specs.Answer.{LineNumbers, answer_text, group_rows}
use Rattle.query_run.specs.Both.{both_told}
use Rattle.query_run.specs.Inside.{HasEndedFirst}
use Rattle.query_run.specs.Plans.{grouping_of}
use Rattle.query_run.specs.Taking.{join_slots}
use Rattle.query_run.specs.Through.{lefts_taken, pairs_taken, rights_taken}
use Rattle.query_run.specs.Trail.{HoldsRows}
use Rattle.query_run.proofs.BothWants.{fed_fewer, grouped_below, slots_told}
use Rattle.query_run.proofs.EndedFirst.{ended_behind, ended_first, may_start_still, own_after, own_left, some_page, stopped_still}
use Rattle.query_run.proofs.Going.{of_pool_so, stopped_later}
use Rattle.query_run.proofs.Names.{joined_kinds}
use Rattle.query_run.proofs.Results.{both_ok, of_bad, of_done, of_ok}
use Rattle.query_run.proofs.Sides.{both_held, few_kept, groups_answer, groups_front, joined_numbers}
use Rattle.query_run.proofs.Counted.{both_fed, ending_makes, grouped_whole, told_so}
use Rattle.query_run.proofs.Wants.{want_more}
use Rattle.query_run.proofs.Runs.{unread, wrote}
use Rattle.query_run.proofs.both.answer.Goals as goal

pub returns-clause-outside : goal.returns-clause-outside
returns-clause-outside g c =
    let plan = c.args.plan.now in
    let asked = c.args.asked.now in
    let fed = c.feed_both-fed in
    let has = of_ok _ fed.result.0 c.in-Ok.fed c.in-Ok.is fed.ensures.ok in
    let shape = fed.ensures.goes.same.shape ∙ c.requires.started.0 in
    let tells = fed.ensures.goes.leaves.others.told in
    let result = c.write_both.result.0 in
    let text = g.K.Sink.contents in
    wrote g.S.Source g.K.Sink plan c.args.page _ _ _ result (of_done fed.result.0 c.in-Ok.fed c.in-Ok.is fed.ensures.read)
    (λ told. on_ok result (λ ok. groups_answer plan asked c.args.page c.requires.right c.requires.groups _ _ _ _ _ _ _ has
    (subst (λ (s : JoinShape). Appends (text c.args.sink.now) (text c.write_both.new.sink) (answer_text plan (group_rows (grouping_of plan) (pairs_of s has.lefts has.rights)))) shape (ok _ _ _ has.kept (tells ∙ told)))) c.write_both.ensures.ok)
    (if_ok result (λ ran both. joined_numbers plan asked c.args.page c.requires.right _ _ _ _ _ _ ran has both.0.0 both.0.1 both.0.2
    (λ told. subst (λ (s : JoinShape). LineNumbers plan (pairs_of s has.lefts has.rights) ran) shape (both.1 _ _ _ has.kept (tells ∙ told))))
    (both_ok _ _ result c.write_both.ensures.read c.write_both.ensures.lines))
    c.write_both.ensures.cause
    (λ told. on_err result (λ err. groups_front plan asked c.args.page c.requires.right c.requires.groups _ _ _ _ _ _ _ has
    (subst (λ (s : JoinShape). AppendsFront (text c.args.sink.now) (text c.write_both.new.sink) (answer_text plan (group_rows (grouping_of plan) (pairs_of s has.lefts has.rights)))) shape (err _ _ _ has.kept (tells ∙ told)))) c.write_both.ensures.err)
    c.write_both.ensures.sink c.write_both.ensures.stops fed.ensures.sources_kept

pub returns-in-Err-clause-outside : goal.returns-in-Err-clause-outside
returns-in-Err-clause-outside g c =
    let fed = c.feed_both-fed in
    unread g.S.Source g.K.Sink c.args.plan.now c.args.page _ _ _ c.in-Err.e (of_bad _ fed.result.0 c.in-Err.e c.in-Err.is fed.ensures.input) (of_bad _ fed.result.0 c.in-Err.e c.in-Err.is fed.ensures.cause) refl fed.ensures.sources_kept

pub feed_both-fed-requires-clause-begins : goal.feed_both-fed-requires-clause-begins
feed_both-fed-requires-clause-begins g c = record {
  stands = c.requires.stands;
  shape_is = c.requires.started.0;
  keeps = c.requires.keeps;
  page_is = search rules;
  short = c.requires.page.1;
  long = subst (λ (n : ℕ). 0 < n) (sym c.requires.page.0) (some_page c.args.plan.now.page_blocks (g.St.Store.holds c.args.store.now) c.requires.plan.paged c.requires.long);
}

pub returns-in-Err-clause-pool : goal.returns-in-Err-clause-pool
returns-in-Err-clause-pool g c =
    let grows = grows_trans _ _ _ c.end-first.ensures.leaves.grows c.end_client.ensures.grows in
    of_pool_so _ _ (λ why by. record { answered = answered_after why _ _ _ by.answered grows; want = subst (λ (n : ℕ). IsWant n (join_slots c.args.join (g.St.Store.holds c.args.store.now) (g.St.Store.signs c.args.store.now)) why) c.requires.started.1 by.want })
    c.in-Err.e (of_bad _ c.feed_both-fed.result.0 c.in-Err.e c.in-Err.is c.feed_both-fed.ensures.pool)

pub returns-in-Err-clause-enough : goal.returns-in-Err-clause-enough
returns-in-Err-clause-enough g c =
    let plan = c.args.plan.now in
    let page = c.args.page in
    let join = c.args.join in
    let h = g.St.Store.holds c.args.store.now in
    let total = join_slots join h (g.St.Store.signs c.args.store.now) in
    of_pool_so _ _ (λ why below tells. told_so (λ both. IsWantBelow (slots_for join h (lefts_taken plan page both) (rights_taken plan page both)) total why)
    (λ both. IsWantBelow (slots_told plan page both) total why)
    (λ both want. want_more (slots_for join h (lefts_taken plan page both) (rights_taken plan page both)) (slots_told plan page both) total why
    (fed_fewer plan page (lefts_taken plan page both) (rights_taken plan page both)
    (pairs_taken plan page both) join h c.requires.started.1 c.requires.page.0) want)
    (both_told (g.S.Source.remaining c.args.left.now) (g.S.Source.remaining c.args.right.now)) below)
    c.in-Err.e (of_bad _ c.feed_both-fed.result.0 c.in-Err.e c.in-Err.is c.feed_both-fed.ensures.enough)

pub returns-in-Err-clause-free : goal.returns-in-Err-clause-free
returns-in-Err-clause-free g c = ap (λ (h : Holdings). h.free_slots) c.end_client.ensures.value ∙ c.end-first.ensures.slots ∙ c.feed_both-fed.ensures.goes.slots

pub returns-in-Err-clause-clients : goal.returns-in-Err-clause-clients
returns-in-Err-clause-clients g c =
    let t = c.args.join.client.tracker in
    let u = c.args.second.tracker in
    let h0 = g.St.Store.holds c.args.store.now in
    let h1 = g.St.Store.holds c.feed_both-fed.new.store in
    let h2 = g.St.Store.holds c.end-first.new.store in
    let s0 = g.St.Store.signs c.args.store.now in
    let s1 = g.St.Store.signs c.feed_both-fed.new.store in
    let s2 = g.St.Store.signs c.end-first.new.store in
    let goes = c.feed_both-fed.ensures.goes in
    let last : LeavesOthers t h1 h2 s1 s2 = subst (λ (x : ClientToken). LeavesOthers x.tracker h1 h2 s1 s2) goes.same.client c.end-first.ensures.leaves in
    let leaves : LeavesOthers t h0 h2 s0 s2 = leaves_both t h0 h1 h2 s0 s1 s2 goes.leaves last in
    let ended : g.St.Store.holds c.end_client.new.self ≡ after_end_client t h2 =
    c.end_client.ensures.value ∙ ap (λ (x : ClientToken). after_end_client x.tracker h2) (c.end-first.ensures.client ∙ goes.same.client) in
    rw ended (
      stopped_still c.args.second c.args.second c.args.plan.now.page_blocks h0 (after_end_client t h2) c.requires.second refl (own_after t u c.requires.apart h0 h2 s0 s2 leaves),
      ended_first t u c.requires.apart h0 h2 s0 s2 _ (left_beside t (Some u) h0 h2 s0 s2 leaves) c.end_client.ensures.grows,
    )

pub overflow_add-read : goal.overflow_add-read
overflow_add-read g c =
    let has = of_ok _ c.feed_both-fed.result.0 c.in-Ok.fed c.in-Ok.is c.feed_both-fed.ensures.ok in
    let left = few_kept _ _ _ _ _ _ _ has.lefts_fed in
    let right = few_kept _ _ _ _ _ _ _ has.rights_fed in
    omega (arith, left, right)

pub write_both-requires-clause-second : goal.write_both-requires-clause-second
write_both-requires-clause-second g c =
    may_start_still c.args.second c.args.plan.now.page_blocks _ _ c.requires.second (own_left c.args.join.client.tracker c.args.second.tracker c.requires.apart _ _ _ _ c.feed_both-fed.ensures.goes.leaves)

pub write_both-requires-clause-kinds : goal.write_both-requires-clause-kinds
write_both-requires-clause-kinds g c =
    let shape = c.feed_both-fed.ensures.goes.same.shape ∙ c.requires.started.0 in
    joined_kinds c.args.plan.now c.args.asked.now c.requires.right ∙ sym (ap (λ (s : JoinShape). s.left ++ s.right) shape)

pub write_both-requires-clause-blocks : goal.write_both-requires-clause-blocks
write_both-requires-clause-blocks g c = c.feed_both-fed.ensures.goes.same.left_blocks ∙ c.requires.started.1

pub returns-clause-pool : goal.returns-clause-pool
returns-clause-pool g c =
    let goes = c.feed_both-fed.ensures.goes in
    if_err c.write_both.result.0 (λ e by. stopped_later c.args.plan.now.page_blocks c.args.plan.now.page_blocks _ _ _ _ _ e refl goes.slots goes.leaves.grows by) c.write_both.ensures.pool

pub returns-clause-enough : goal.returns-clause-enough
returns-clause-enough g c =
    let has = of_ok _ c.feed_both-fed.result.0 c.in-Ok.fed c.in-Ok.is c.feed_both-fed.ensures.ok in
    let goes = c.feed_both-fed.ensures.goes in
    if_err c.write_both.result.0 (λ e enough. of_pool_so _ _ (λ why below told. grouped_below c.args.plan.now c.args.asked.now c.args.page _ _ _ _ _ c.requires.right c.requires.groups has c.feed_both-fed.result.1.shape _ _ why (goes.same.shape ∙ c.requires.started.0) goes.slots (below _ _ _ has.kept (goes.leaves.others.told ∙ told))) e enough) c.write_both.ensures.enough

pub returns-clause-free : goal.returns-clause-free
returns-clause-free g c = c.write_both.ensures.free ∙ c.feed_both-fed.ensures.goes.slots

pub returns-clause-kept : goal.returns-clause-kept
returns-clause-kept g c =
    let has = of_ok _ c.feed_both-fed.result.0 c.in-Ok.fed c.in-Ok.is c.feed_both-fed.ensures.ok in
    let goes = c.feed_both-fed.ensures.goes in
    let shape = goes.same.shape ∙ c.requires.started.0 in
    on_ok c.write_both.result.0 (λ kept. both_held c.args.plan.now c.args.asked.now c.args.page _ _ _ _ _ _ _ has
    (subst (λ (s : JoinShape). EnteredEvents (HoldsRows s has.lefts has.rights) (g.St.Store.signs c.args.store.now).trail (g.St.Store.signs c.write_both.new.store).trail) shape (kept _ _ _ has.kept))) c.write_both.ensures.kept

pub returns-clause-clients : goal.returns-clause-clients
returns-clause-clients g c =
    let t = c.args.join.client.tracker in
    let u = c.args.second.tracker in
    let h1 = g.St.Store.holds c.feed_both-fed.new.store in
    let h2 = g.St.Store.holds c.write_both.new.store in
    let s1 = g.St.Store.signs c.feed_both-fed.new.store in
    let s2 = g.St.Store.signs c.write_both.new.store in
    let goes = c.feed_both-fed.ensures.goes in
    let gone : HasEndedFirst t u h1 h2 s1 s2 = subst (λ (x : ClientToken). HasEndedFirst x.tracker u h1 h2 s1 s2) goes.same.client c.write_both.ensures.gone in
    (c.write_both.ensures.second, ended_behind t u c.requires.apart _ h1 h2 _ s1 s2 goes.leaves gone)

pub returns-in-Err-clause-made : goal.returns-in-Err-clause-made
returns-in-Err-clause-made g c = λ told.
    let s1 = g.St.Store.signs c.feed_both-fed.new.store in
    let s2 = g.St.Store.signs c.end-first.new.store in
    let s3 = g.St.Store.signs c.end_client.new.self in
    both_fed c.args.plan.now c.args.asked.now c.requires.right (g.S.Source.remaining c.args.left.now) (g.S.Source.remaining c.args.right.now) (g.St.Store.signs c.args.store.now) s1 s3 c.feed_both-fed.ensures.made
    (few_both 0 0 0 s1 s2 s3 (omega arith) c.end-first.ensures.few (ending_makes _ _ _ _ s2 s3 c.end_client.ensures.entries))

pub returns-clause-made : goal.returns-clause-made
returns-clause-made g c = λ told.
    let has = of_ok _ c.feed_both-fed.result.0 c.in-Ok.fed c.in-Ok.is c.feed_both-fed.ensures.ok in
    let goes = c.feed_both-fed.ensures.goes in
    let shape = goes.same.shape ∙ c.requires.started.0 in
    let s1 = g.St.Store.signs c.feed_both-fed.new.store in
    let s2 = g.St.Store.signs c.write_both.new.store in
    grouped_whole c.args.plan.now c.args.asked.now c.requires.right c.args.page _ _ _ c.requires.groups (g.S.Source.remaining c.args.left.now) (g.S.Source.remaining c.args.right.now) has (g.St.Store.signs c.args.store.now) s1 s2 c.feed_both-fed.ensures.made
    (subst (λ (s : JoinShape). MakesFew (15 * (length has.lefts + length has.rights) + 16 * length (pairs_of s has.lefts has.rights)) s1 s2) shape (c.write_both.ensures.made _ has.lefts has.rights has.kept (goes.leaves.others.told ∙ told)))
