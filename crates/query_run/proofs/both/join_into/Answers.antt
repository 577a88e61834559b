use Rattle.std.proofs.Common.{◌≡◌, ◌≢◌, ◌∙◌, ◌+◌, ◌*◌, ◌<◌, ◌≤◌, ℕ, List, Option, Some, IsSome, IfErr, true, length, ap, refl, subst, sym, arith}
use Rattle.pool_model.specs.declared.entry.Entry.{Entry}
use Rattle.row_codec.specs.declared.values.Value.{Value}
use Rattle.store_api.proofs.Growing.{grows_trans}
use Rattle.store_api.specs.Changes.{after_end_client}
use Rattle.store_api.specs.Emitters.{SameOwn}
use Rattle.store_api.specs.Holdings.{Holdings, account_of}
use Rattle.store_api.specs.Tokens.{ClientToken}
use Rattle.partition_stack.specs.Leaving.{LeavesOthers}
use Rattle.partition_stack.specs.Slots.{IsWantBelowOf, IsWantOf}
use Rattle.partition_stack.specs.Stack.{over}
use Rattle.partition_stack.proofs.Emitters.{beside_then, left_beside}
use Rattle.partition_stack.proofs.Making.{few_both}
use Rattle.partition_stack.proofs.Results.{any_err, if_err, if_ok, on_err}
use Rattle.group_op.proofs.Wants.{below_more_of}
use Rattle.group_op.specs.Operator.{Operator}
use Rattle.join_op.specs.Operator.{Keeps, slots_for}
use Rattle.join_op.specs.Pairs.{pairs_of}
use Rattle.query_run.specs.Feeder.{pages_made, slots_for_rows}
use Rattle.query_run.specs.FeederLaws.{took_same}
use Rattle.query_run.specs.Inside.{HasEndedFirst, slots_of_both}
use Rattle.query_run.specs.Plans.{shape_of}
use Rattle.query_run.specs.Taking.{join_slots}
use Rattle.query_run.specs.declared.feeder.Feeder.{Feeder}
use Rattle.query_run.proofs.BothWants.{both_fewer, slots_behind, want_handed}
use Rattle.query_run.proofs.EndedFirst.{ended_first, ended_more, lives_ended, own_after, some_page, stopped_still}
use Rattle.query_run.proofs.Feeders.{feeds_here, holds_taken, it_feeds, made_few, of_handed, took_none}
use Rattle.query_run.proofs.JoinWants.{handed_pairs}
use Rattle.query_run.proofs.Joining.{both_end_first}
use Rattle.query_run.proofs.KeptPairs.{both_ended, holds_while}
use Rattle.query_run.proofs.Results.{at_ok, done_both, done_so}
use Rattle.query_run.proofs.Counted.{counted_all, counted_on, counted_then, ending_makes}
use Rattle.query_run.proofs.both.join_into.Goals as goal

pub end_client-requires-clause-client : goal.end_client-requires-clause-client
end_client-requires-clause-client g c =
    subst (λ (x : ClientToken). IsSome ((g.St.Store.holds c.end-first.new.store).clients x.tracker)) (sym c.end-first.ensures.client)
    (lives_ended c.args.join (g.St.Store.holds c.args.store.now) (g.St.Store.holds c.end-first.new.store) (g.St.Store.signs c.args.store.now) (g.St.Store.signs c.end-first.new.store) c.requires.op c.requires.long c.end-first.ensures.leaves)

pub returns-in-Err-clause-err : goal.returns-in-Err-clause-err
returns-in-Err-clause-err g c =
    let ended : g.St.Store.holds c.end_client.new.self ≡ after_end_client c.args.join.client.tracker (g.St.Store.holds c.end-first.new.store) =
    c.end_client.ensures.value ∙ ap (λ (x : ClientToken). after_end_client x.tracker (g.St.Store.holds c.end-first.new.store)) c.end-first.ensures.client in
    rw ended (stopped_still c.args.second c.in-Err.second c.args.plan.now.page_blocks (g.St.Store.holds c.args.store.now) _ c.requires.second c.in-Err.ensures.err
    (own_after c.args.join.client.tracker c.args.second.tracker c.requires.apart _ _ _ _ c.end-first.ensures.leaves))

pub returns-in-Err-clause-gone : goal.returns-in-Err-clause-gone
returns-in-Err-clause-gone g c =
    let ended : g.St.Store.holds c.end_client.new.self ≡ after_end_client c.args.join.client.tracker (g.St.Store.holds c.end-first.new.store) =
    c.end_client.ensures.value ∙ ap (λ (x : ClientToken). after_end_client x.tracker (g.St.Store.holds c.end-first.new.store)) c.end-first.ensures.client in
    rw ended (ended_first c.args.join.client.tracker c.args.second.tracker c.requires.apart _ _ _ _ _ (left_beside c.args.join.client.tracker (Some c.args.second.tracker) _ _ _ _ c.end-first.ensures.leaves) c.end_client.ensures.grows)

pub hand_pairs-handed-requires-clause-none : goal.hand_pairs-handed-requires-clause-none
hand_pairs-handed-requires-clause-none g c =
    let has = c.law_starts.ensures.law c.args.second c.args.plan.now.page_blocks (shape_of c.args.plan.now) (g.St.Store.holds c.args.store.now) (g.St.Store.signs c.args.store.now) c.requires.plan.shape c.requires.plan.paged c.requires.second in
    let made = c.with-feeder.ensures in
    rw (c.requires.whose.0, c.requires.whose.1, c.requires.whose.2)
    (took_none c.args.second (shape_of c.args.plan.now) c.args.plan.now.page_blocks c.with-feeder.result (g.St.Store.holds c.args.store.now) (g.St.Store.signs c.args.store.now) has
    (made.op.0 ∙ ap (λ (op : Operator). Some op) c.in-Ok.ensures.ok) made.op.1 (made.numbers.0 ∙ c.requires.page.0) (rw made.numbers.0 (c.requires.page.1)) made.numbers.1 made.numbers.2)

pub end_client-requires-2-clause-client : goal.end_client-requires-2-clause-client
end_client-requires-2-clause-client g c =
    let h1 = g.St.Store.holds c.hand_pairs-handed.new.store in
    let long = subst (λ (n : ℕ). 0 < n) (sym c.hand_pairs-handed.ensures.leaves.block_len) c.requires.long in
    subst (λ (x : ClientToken). IsSome ((g.St.Store.holds c.end-first-2.new.store).clients x.tracker)) (sym c.end-first-2.ensures.client)
    (lives_ended c.hand_pairs-handed.new.op h1 (g.St.Store.holds c.end-first-2.new.store) (g.St.Store.signs c.hand_pairs-handed.new.store) (g.St.Store.signs c.end-first-2.new.store) c.hand_pairs-handed.ensures.op long c.end-first-2.ensures.leaves)

pub into_grouping-requires : goal.into_grouping-requires
into_grouping-requires g c =
    let t = c.args.join.client.tracker in
    let u = g.B.Whose.client.tracker in
    let h1 = g.St.Store.holds c.hand_pairs-handed.new.store in
    let h2 = g.St.Store.holds c.end-first-2.new.store in
    let apart : u ≢ t = subst (λ (x : ClientToken). x.tracker ≢ t) (sym c.requires.whose.0) c.requires.apart in
    let leaves : LeavesOthers t h1 h2 (g.St.Store.signs c.hand_pairs-handed.new.store) (g.St.Store.signs c.end-first-2.new.store) = subst (λ (x : ClientToken). LeavesOthers x.tracker h1 h2 (g.St.Store.signs c.hand_pairs-handed.new.store) (g.St.Store.signs c.end-first-2.new.store)) c.hand_pairs-handed.ensures.client c.end-first-2.ensures.leaves in
    let ended : g.St.Store.holds c.end_client-2.new.self ≡ after_end_client t h2 =
    c.end_client-2.ensures.value ∙ ap (λ (x : ClientToken). after_end_client x.tracker h2) (c.end-first-2.ensures.client ∙ c.hand_pairs-handed.ensures.client) in
    let own : SameOwn (Some u) h1 (g.St.Store.holds c.end_client-2.new.self) = rw ended (own_after t u apart h1 h2 _ _ leaves) in
    let took = c.hand_pairs-handed.ensures.any in
    record { took = (took.0, took_same c.hand_pairs-handed.result.1.op c.hand_pairs-handed.result.1.client g.B.Whose.client g.B.Whose.shape g.B.Whose.blocks c.hand_pairs-handed.result.1 h1 (g.St.Store.holds c.end_client-2.new.self) took.0 own took.1) }

pub returns-clause-ok : goal.returns-clause-ok
returns-clause-ok g c =
    let t = c.args.join.client.tracker in
    let u = g.B.Whose.client.tracker in
    let h1 = g.St.Store.holds c.hand_pairs-handed.new.store in
    let h2 = g.St.Store.holds c.end-first-2.new.store in
    let apart : u ≢ t = subst (λ (x : ClientToken). x.tracker ≢ t) (sym c.requires.whose.0) c.requires.apart in
    let leaves : LeavesOthers t h1 h2 (g.St.Store.signs c.hand_pairs-handed.new.store) (g.St.Store.signs c.end-first-2.new.store) = subst (λ (x : ClientToken). LeavesOthers x.tracker h1 h2 (g.St.Store.signs c.hand_pairs-handed.new.store) (g.St.Store.signs c.end-first-2.new.store)) c.hand_pairs-handed.ensures.client c.end-first-2.ensures.leaves in
    let ended : g.St.Store.holds c.end_client-2.new.self ≡ after_end_client t h2 =
    c.end_client-2.ensures.value ∙ ap (λ (x : ClientToken). after_end_client x.tracker h2) (c.end-first-2.ensures.client ∙ c.hand_pairs-handed.ensures.client) in
    let own : SameOwn (Some u) h1 (g.St.Store.holds c.end_client-2.new.self) = rw ended (own_after t u apart h1 h2 _ _ leaves) in
    let took = c.hand_pairs-handed.ensures.any in
    let feeder = c.hand_pairs-handed.result.1 in
    let now = took_same feeder.op feeder.client g.B.Whose.client g.B.Whose.shape g.B.Whose.blocks feeder h1 (g.St.Store.holds c.end_client-2.new.self) took.0 own took.1 in
    done_so c.into_grouping.result (λ op there same.
    let feeds = (it_feeds feeder.op feeder.client op g.B.Whose.client g.B.Whose.shape g.B.Whose.blocks feeder (g.St.Store.holds c.end_client-2.new.self) took.0 there.0 now).1 in
    record {
      is = rw (same.0, same.1) (feeds_here g.B.Whose.client g.B.Whose.shape g.B.Whose.blocks op feeder (g.St.Store.holds c.end_client-2.new.self) (g.St.Store.signs c.end_client-2.new.self) c.law_asks_own.ensures.law took.0 feeds);
      feeding = feeds.feeding;
      client = feeds.client ∙ c.requires.whose.0;
      shape_is = feeds.shape_is ∙ c.requires.whose.1;
      blocks_are = feeds.blocks_are ∙ c.requires.whose.2;
    })
    c.into_grouping.ensures.ok c.into_grouping.ensures.same

pub returns-clause-holds : goal.returns-clause-holds
returns-clause-holds g c =
    let t = c.args.join.client.tracker in
    let u = g.B.Whose.client.tracker in
    let h1 = g.St.Store.holds c.hand_pairs-handed.new.store in
    let h2 = g.St.Store.holds c.end-first-2.new.store in
    let apart : u ≢ t = subst (λ (x : ClientToken). x.tracker ≢ t) (sym c.requires.whose.0) c.requires.apart in
    let leaves : LeavesOthers t h1 h2 (g.St.Store.signs c.hand_pairs-handed.new.store) (g.St.Store.signs c.end-first-2.new.store) = subst (λ (x : ClientToken). LeavesOthers x.tracker h1 h2 (g.St.Store.signs c.hand_pairs-handed.new.store) (g.St.Store.signs c.end-first-2.new.store)) c.hand_pairs-handed.ensures.client c.end-first-2.ensures.leaves in
    let ended : g.St.Store.holds c.end_client-2.new.self ≡ after_end_client t h2 =
    c.end_client-2.ensures.value ∙ ap (λ (x : ClientToken). after_end_client x.tracker h2) (c.end-first-2.ensures.client ∙ c.hand_pairs-handed.ensures.client) in
    let own : SameOwn (Some u) h1 (g.St.Store.holds c.end_client-2.new.self) = rw ended (own_after t u apart h1 h2 _ _ leaves) in
    let feeder = c.hand_pairs-handed.result.1 in
    done_both c.into_grouping.result (λ op there handed same start lefts rights keeps told.
    let pairs = at_ok c.hand_pairs-handed.result.0 handed c.hand_pairs-handed.ensures.ok start lefts rights keeps told in
    let now = took_same feeder.op feeder.client g.B.Whose.client g.B.Whose.shape g.B.Whose.blocks feeder h1 (g.St.Store.holds c.end_client-2.new.self) pairs.rows own pairs.taken in
    let feeds = (it_feeds feeder.op feeder.client op g.B.Whose.client g.B.Whose.shape g.B.Whose.blocks feeder (g.St.Store.holds c.end_client-2.new.self) pairs.rows there.0 now).1 in
    rw (same.0, same.1) (holds_taken g.B.Whose.client g.B.Whose.shape g.B.Whose.blocks op feeder (g.St.Store.holds c.end_client-2.new.self) (g.St.Store.signs c.end_client-2.new.self) c.law_asks_own.ensures.law pairs.rows _ pairs.same feeds))
    c.into_grouping.ensures.ok c.into_grouping.ensures.handed c.into_grouping.ensures.same

pub returns-clause-kept : goal.returns-clause-kept
returns-clause-kept g c =
    let s1 = g.St.Store.signs c.hand_pairs-handed.new.store in
    let s2 = g.St.Store.signs c.end-first-2.new.store in
    let s3 = g.St.Store.signs c.end_client-2.new.self in
    let h1 = g.St.Store.holds c.hand_pairs-handed.new.store in
    let h2 = g.St.Store.holds c.end-first-2.new.store in
    let f = over c.hand_pairs-handed.new.op.left h1 s1 in
    let k = over c.hand_pairs-handed.new.op.right h1 s1 in
    let first = c.end-first-2.result.tracker in
    let ends = both_ended f k h2.session first h2.query (account_of first h2).reservation s1 s2 s3 (both_end_first f k s1 s2 c.end-first-2.ensures.leaves.grows c.end-first-2.ensures.first) c.end_client-2.ensures.entries in
    done_both c.into_grouping.result (λ op there handed same start lefts rights keeps.
    let held = at_ok c.hand_pairs-handed.result.0 handed c.hand_pairs-handed.ensures.kept start lefts rights keeps in
    rw (same.1) (holds_while c.args.join.shape lefts rights f k _ _ start s1.trail s3.trail
    (λ (untouched : c.hand_pairs-handed.result.1 ≡ c.with-feeder.result).
    let some : Some op ≡ Some c.in-Ok.op = sym there.0 ∙ ap (λ (e : Feeder). e.op) untouched ∙ c.with-feeder.ensures.op.0 in
    let is : op ≡ c.in-Ok.op = cc in
    is ∙ c.in-Ok.ensures.ok)
    held ends))
    c.into_grouping.ensures.ok c.into_grouping.ensures.handed c.into_grouping.ensures.same

pub returns-clause-cause : goal.returns-clause-cause
returns-clause-cause g c =
    let more = c.end-first-2.ensures.leaves.grows in
    let grows = grows_trans _ _ _ (grows_trans _ _ _ more c.end_client-2.ensures.grows) c.into_grouping.ensures.leaves.grows in
    if_err c.into_grouping.result (λ e stopped. of_handed c.hand_pairs-handed.result.0 e.0 _ _ _ c.hand_pairs-handed.ensures.cause grows stopped.0) c.into_grouping.ensures.err

pub returns-clause-gone : goal.returns-clause-gone
returns-clause-gone g c =
    let t = c.args.join.client.tracker in
    let u = g.B.Whose.client.tracker in
    let h0 = g.St.Store.holds c.args.store.now in
    let h1 = g.St.Store.holds c.hand_pairs-handed.new.store in
    let h2 = g.St.Store.holds c.end-first-2.new.store in
    let s0 = g.St.Store.signs c.args.store.now in
    let s1 = g.St.Store.signs c.hand_pairs-handed.new.store in
    let s2 = g.St.Store.signs c.end-first-2.new.store in
    let s3 = g.St.Store.signs c.end_client-2.new.self in
    let apart : u ≢ t = subst (λ (x : ClientToken). x.tracker ≢ t) (sym c.requires.whose.0) c.requires.apart in
    let leaves : LeavesOthers t h1 h2 s1 s2 = subst (λ (x : ClientToken). LeavesOthers x.tracker h1 h2 s1 s2) c.hand_pairs-handed.ensures.client c.end-first-2.ensures.leaves in
    let ended : g.St.Store.holds c.end_client-2.new.self ≡ after_end_client t h2 =
    c.end_client-2.ensures.value ∙ ap (λ (x : ClientToken). after_end_client x.tracker h2) (c.end-first-2.ensures.client ∙ c.hand_pairs-handed.ensures.client) in
    let first : HasEndedFirst t u h0 (after_end_client t h2) s0 s3 = ended_first t u apart h0 h2 s0 s2 s3 (beside_then t (Some u) h0 h1 h2 s0 s1 s2 c.hand_pairs-handed.ensures.leaves (left_beside t (Some u) h1 h2 s1 s2 leaves)) c.end_client-2.ensures.grows in
    let gone : HasEndedFirst t u h0 (g.St.Store.holds c.into_grouping.new.store) s0 (g.St.Store.signs c.into_grouping.new.store) =
    ended_more t u apart h0 (g.St.Store.holds c.end_client-2.new.self) (g.St.Store.holds c.into_grouping.new.store) s0 s3 (g.St.Store.signs c.into_grouping.new.store) (subst (λ (h : Holdings). HasEndedFirst t u h0 h s0 s3) (sym ended) first) c.into_grouping.ensures.leaves in
    subst (λ (x : ClientToken). HasEndedFirst t x.tracker h0 (g.St.Store.holds c.into_grouping.new.store) s0 (g.St.Store.signs c.into_grouping.new.store)) c.requires.whose.0 gone

pub returns-in-Err-clause-few : goal.returns-in-Err-clause-few
returns-in-Err-clause-few g c = λ start lefts rights keeps told.
    let s0 = g.St.Store.signs c.args.store.now in
    let s1 = g.St.Store.signs c.end-first.new.store in
    let s2 = g.St.Store.signs c.end_client.new.self in
    few_both 0 0 (15 * (length lefts + length rights) + length (pairs_of c.args.join.shape lefts rights)) s0 s1 s2 (omega arith) c.end-first.ensures.few (ending_makes _ _ _ _ s1 s2 c.end_client.ensures.entries)

pub returns-clause-made : goal.returns-clause-made
returns-clause-made g c =
    let feeder = c.hand_pairs-handed.result.1 in
    let s0 = g.St.Store.signs c.args.store.now in
    let s1 = g.St.Store.signs c.hand_pairs-handed.new.store in
    let s2 = g.St.Store.signs c.end-first-2.new.store in
    let s3 = g.St.Store.signs c.end_client-2.new.self in
    let none = few_both 0 0 0 s1 s2 s3 (omega arith) c.end-first-2.ensures.few (ending_makes _ _ _ _ s2 s3 c.end_client-2.ensures.entries) in
    done_so c.into_grouping.result (λ op there same start lefts rights keeps told.
    rw (same.1) (counted_on (15 * (length lefts + length rights)) feeder.taken feeder.op op s0 s1 s3 there.0 (c.hand_pairs-handed.ensures.made start lefts rights keeps told) none))
    c.into_grouping.ensures.ok c.into_grouping.ensures.same

pub returns-clause-few : goal.returns-clause-few
returns-clause-few g c =
    let feeder = c.hand_pairs-handed.result.1 in
    let h1 = g.St.Store.holds c.hand_pairs-handed.new.store in
    let s0 = g.St.Store.signs c.args.store.now in
    let s1 = g.St.Store.signs c.hand_pairs-handed.new.store in
    let s2 = g.St.Store.signs c.end-first-2.new.store in
    let s3 = g.St.Store.signs c.end_client-2.new.self in
    let s4 = g.St.Store.signs c.into_grouping.new.store in
    let none = few_both 0 0 0 s1 s2 s4 (omega arith) c.end-first-2.ensures.few (few_both 0 0 0 s2 s3 s4 (omega arith) (ending_makes _ _ _ _ s2 s3 c.end_client-2.ensures.entries) c.into_grouping.ensures.made) in
    any_err c.into_grouping.result (λ start lefts rights keeps told.
    let took = c.hand_pairs-handed.ensures.few start lefts rights keeps told in
    let taken = made_few feeder.op feeder.client g.B.Whose.client g.B.Whose.shape g.B.Whose.blocks feeder h1 took.0 c.law_few.ensures.pages took.1 in
    let fewer = took.2 in
    let most = 15 * (length lefts + length rights) in
    let pairs = pairs_of c.args.join.shape lefts rights in
    counted_all (most + 0) (pages_made feeder.op feeder.taken) (most + length pairs) s0 s4 (omega (arith, taken, fewer)) (counted_then most 0 (pages_made feeder.op feeder.taken) s0 s1 s4 (c.hand_pairs-handed.ensures.made start lefts rights keeps told) none))

pub hand_pairs-handed-requires-clause-blocks : goal.hand_pairs-handed-requires-clause-blocks
hand_pairs-handed-requires-clause-blocks g c = c.requires.whose.2 ∙ sym c.requires.blocks

pub hand_pairs-handed-requires-clause-long : goal.hand_pairs-handed-requires-clause-long
hand_pairs-handed-requires-clause-long g c =
    subst (λ (n : ℕ). 0 < n) (sym (c.with-feeder.ensures.numbers.0 ∙ c.requires.page.0)) (some_page c.args.plan.now.page_blocks (g.St.Store.holds c.args.store.now) c.requires.plan.paged c.requires.long)

pub returns-in-Err-clause-free : goal.returns-in-Err-clause-free
returns-in-Err-clause-free g c = ap (λ (h : Holdings). h.free_slots) c.end_client.ensures.value ∙ c.end-first.ensures.slots

pub returns-clause-slots : goal.returns-clause-slots
returns-clause-slots g c =
    let t = c.args.join.client.tracker in
    let u = g.B.Whose.client.tracker in
    let h1 = g.St.Store.holds c.hand_pairs-handed.new.store in
    let h2 = g.St.Store.holds c.end-first-2.new.store in
    let h3 = g.St.Store.holds c.end_client-2.new.self in
    let s1 = g.St.Store.signs c.hand_pairs-handed.new.store in
    let apart : u ≢ t = subst (λ (x : ClientToken). x.tracker ≢ t) (sym c.requires.whose.0) c.requires.apart in
    let leaves : LeavesOthers t h1 h2 s1 (g.St.Store.signs c.end-first-2.new.store) = subst (λ (x : ClientToken). LeavesOthers x.tracker h1 h2 s1 (g.St.Store.signs c.end-first-2.new.store)) c.hand_pairs-handed.ensures.client c.end-first-2.ensures.leaves in
    let ended : h3 ≡ after_end_client t h2 = c.end_client-2.ensures.value ∙ ap (λ (x : ClientToken). after_end_client x.tracker h2) (c.end-first-2.ensures.client ∙ c.hand_pairs-handed.ensures.client) in
    let own : SameOwn (Some u) h1 h3 = rw ended (own_after t u apart h1 h2 _ _ leaves) in
    let total = join_slots c.args.join (g.St.Store.holds c.args.store.now) (g.St.Store.signs c.args.store.now) in
    let free : h3.free_slots ≡ join_slots c.hand_pairs-handed.new.op h1 s1 = ap (λ (h : Holdings). h.free_slots) ended ∙ c.end-first-2.ensures.slots in
    let behind = slots_behind u c.hand_pairs-handed.result.1.op h1 h3 (join_slots c.hand_pairs-handed.new.op h1 s1) total own free c.hand_pairs-handed.ensures.slots in
    if_ok c.into_grouping.result (λ op slots. slots ∙ behind) c.into_grouping.ensures.slots

pub returns-clause-free : goal.returns-clause-free
returns-clause-free g c =
    let t = c.args.join.client.tracker in
    let u = g.B.Whose.client.tracker in
    let h1 = g.St.Store.holds c.hand_pairs-handed.new.store in
    let h2 = g.St.Store.holds c.end-first-2.new.store in
    let h3 = g.St.Store.holds c.end_client-2.new.self in
    let s1 = g.St.Store.signs c.hand_pairs-handed.new.store in
    let apart : u ≢ t = subst (λ (x : ClientToken). x.tracker ≢ t) (sym c.requires.whose.0) c.requires.apart in
    let leaves : LeavesOthers t h1 h2 s1 (g.St.Store.signs c.end-first-2.new.store) = subst (λ (x : ClientToken). LeavesOthers x.tracker h1 h2 s1 (g.St.Store.signs c.end-first-2.new.store)) c.hand_pairs-handed.ensures.client c.end-first-2.ensures.leaves in
    let ended : h3 ≡ after_end_client t h2 = c.end_client-2.ensures.value ∙ ap (λ (x : ClientToken). after_end_client x.tracker h2) (c.end-first-2.ensures.client ∙ c.hand_pairs-handed.ensures.client) in
    let own : SameOwn (Some u) h1 h3 = rw ended (own_after t u apart h1 h2 _ _ leaves) in
    let total = join_slots c.args.join (g.St.Store.holds c.args.store.now) (g.St.Store.signs c.args.store.now) in
    let free : h3.free_slots ≡ join_slots c.hand_pairs-handed.new.op h1 s1 = ap (λ (h : Holdings). h.free_slots) ended ∙ c.end-first-2.ensures.slots in
    let behind = slots_behind u c.hand_pairs-handed.result.1.op h1 h3 (join_slots c.hand_pairs-handed.new.op h1 s1) total own free c.hand_pairs-handed.ensures.slots in
    on_err c.into_grouping.result (λ slots. slots ∙ behind) c.into_grouping.ensures.free

pub returns-clause-want : goal.returns-clause-want
returns-clause-want g c =
    let total = join_slots c.args.join (g.St.Store.holds c.args.store.now) (g.St.Store.signs c.args.store.now) in
    let want : IfErr c.hand_pairs-handed.result.0 (IsWantOf c.args.plan.now.page_blocks total) = subst (λ (n : ℕ). IfErr c.hand_pairs-handed.result.0 (IsWantOf n total)) c.requires.whose.2 c.hand_pairs-handed.ensures.want in
    if_err c.into_grouping.result (λ e stopped. want_handed c.args.plan.now.page_blocks total c.hand_pairs-handed.result.0 e.0 want stopped.0) c.into_grouping.ensures.err

pub returns-clause-enough : goal.returns-clause-enough
returns-clause-enough g c =
    let plan = c.args.plan.now in
    let page = c.args.page in
    let join = c.args.join in
    let h = g.St.Store.holds c.args.store.now in
    let s = g.St.Store.signs c.args.store.now in
    let total = join_slots join h s in
    let page_is : c.with-feeder.result.page ≡ page = c.with-feeder.ensures.numbers.0 in
    let most : IfErr c.hand_pairs-handed.result.0 (λ e. (start : Option (List Entry)) (lefts rights : List (List Value)) → Keeps start lefts rights join h s → h.told ≡ true → IsWantBelowOf (slots_of_both plan page lefts rights (pairs_of join.shape lefts rights)) total e) =
    if_err c.hand_pairs-handed.result.0 (λ e wants start lefts rights keeps told.
    let pairs = pairs_of join.shape lefts rights in
    let both = both_fewer plan page lefts rights pairs join h c.requires.blocks c.requires.page.0 in
    let same : slots_for_rows g.B.Whose.shape g.B.Whose.blocks c.with-feeder.result.page pairs ≡ slots_for_rows (shape_of plan) plan.page_blocks page pairs = rw (c.requires.whose.1, c.requires.whose.2, page_is) refl in
    below_more_of (slots_for join h lefts rights + slots_for_rows g.B.Whose.shape g.B.Whose.blocks c.with-feeder.result.page pairs) (slots_of_both plan page lefts rights pairs) total e
    (subst (λ (n : ℕ). slots_for join h lefts rights + n ≤ slots_of_both plan page lefts rights pairs) (sym same) both) (wants start lefts rights keeps told)) c.hand_pairs-handed.ensures.enough in
    if_err c.into_grouping.result (λ e stopped. handed_pairs (λ start lefts rights. Keeps start lefts rights join h s) (h.told ≡ true) (λ lefts rights. slots_of_both plan page lefts rights (pairs_of join.shape lefts rights)) total c.hand_pairs-handed.result.0 e.0 most stopped.0) c.into_grouping.ensures.err
