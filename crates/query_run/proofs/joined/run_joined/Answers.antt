use Rattle.std.proofs.Common.{rules, Some, ◌≡◌, ◌∙◌, ◌*◌, ◌<◌, IfSome, true, ap, arith, refl}
use Rattle.store_api.proofs.Growing.{grows_trans}
use Rattle.store_api.specs.Changes.{after_end_client}
use Rattle.store_api.specs.Holdings.{account_of}
use Rattle.store_api.specs.Tokens.{ClientToken}
use Rattle.partition_stack.specs.Slots.{IsWantBelow}
use Rattle.partition_stack.specs.Stack.{over}
use Rattle.partition_stack.proofs.Making.{few_both}
use Rattle.partition_stack.proofs.Results.{if_err, on_ok}
use Rattle.join_op.specs.Operator.{Operator, slots_for}
use Rattle.reservation_tree.specs.declared.errors.PoolErr.{PoolErr}
use Rattle.query_plan.specs.Sizes.{least_of, page_len}
use Rattle.query_run.specs.Both.{both_told}
use Rattle.query_run.specs.Causes.{OfPool}
use Rattle.query_run.specs.Plans.{join_shape_of}
use Rattle.query_run.specs.Stopped.{IsLeft, StoppedOver}
use Rattle.query_run.specs.Taking.{join_slots}
use Rattle.query_run.specs.Through.{lefts_taken, rights_taken}
use Rattle.query_run.proofs.Around.{WantsEnough, left_around, left_behind, stopped_around}
use Rattle.query_run.proofs.Counted.{coming_makes, ending_makes, none_through, through_around}
use Rattle.query_run.proofs.Joining.{both_end_first, joins_here, kept_joined, one_join}
use Rattle.query_run.proofs.Going.{of_pool_so}
use Rattle.query_run.proofs.JoinWants.{join_wants, none_joined}
use Rattle.query_run.proofs.KeptFirst.{reserves_first}
use Rattle.query_run.proofs.Results.{both_err}
use Rattle.query_run.proofs.Runs.{nothing_read, read_and_wrote_at}
use Rattle.query_run.proofs.Says.{memory_stops}
use Rattle.query_run.proofs.Wants.{long_page, short_page}
use Rattle.query_run.proofs.joined.run_joined.Goals as goal

pub returns : goal.returns
returns g c =
    let len : c.from.result * c.from-2.result ≡ page_len c.args.plan.now (g.St.Store.holds c.args.store.now).block_len = search rules in
    record {
      outside = read_and_wrote_at g.S.Source g.K.Sink c.args.plan.now _ _ _ _ _ _ c.answer-result.result.0 len c.own_client-c.ensures.own.told c.answer-result.ensures.outside;
      pool =
          let start = c.in-Ok.ensures.ok in
          let plan = c.args.plan.now in
          let asked = c.in-Some.asked in
          let op = c.in-Ok.op in
          let own = c.own_client-c.ensures.own in
          let lefts = g.S.Source.remaining c.args.left.now in
          let rights = g.S.Source.remaining c.args.right.now in
          let h0 = g.St.Store.holds c.args.store.now in
          let h1 = g.St.Store.holds c.own_client-c.new.store in
          let s0 = g.St.Store.signs c.args.store.now in
          let s1 = g.St.Store.signs c.own_client-c.new.store in
          let s2 = g.St.Store.signs c.answer-result.new.store in
          let s4 = g.St.Store.signs c.end_client-2.new.self in
          let blocks : op.left.page_blocks ≡ plan.page_blocks = ap (λ (o : Operator). o.left.page_blocks) start in
          let slots : join_slots op h1 s1 ≡ h0.free_slots = ap (λ (o : Operator). join_slots o h1 s1) start ∙ none_joined c.own_client-c.result plan.page_blocks (join_shape_of plan asked) h1 s1 ∙ own.free_slots in
          let page = c.from.result * c.from-2.result in
          let len : page ≡ page_len plan h0.block_len = search rules in
          let long : 0 < page_len plan h0.block_len = long_page plan h0.block_len c.requires.plan.paged (search rules) in
          let later = grows_trans _ _ _ c.end-c.ensures.leaves.grows c.end_client-2.ensures.grows in
          let wants : PoolErr → Type 0 =
          λ why. h1.told ≡ true → IfSome (both_told lefts rights) (λ both. IsWantBelow (slots_for op h1 (lefts_taken plan page both) (rights_taken plan page both))
          (join_slots op h1 s1) why) in
          if_err c.answer-result.result.0 (λ e both. stopped_around plan (both_told lefts rights) op.left.page_blocks (join_slots op h1 s1) h0 s0 s1 s2 s4 e blocks slots c.own_client-c.ensures.grows later both.0
          (of_pool_so wants (WantsEnough plan (both_told lefts rights) h0)
          (λ why below tells. join_wants plan page lefts rights op h0 h1 s1 why blocks own.block_len len long slots (below (own.told ∙ tells))) e both.1))
          (both_err (StoppedOver op.left.page_blocks (join_slots op h1 s1) s1 s2) (OfPool wants) c.answer-result.result.0 c.answer-result.ensures.pool c.answer-result.ensures.enough);
      kept =
          let planned : c.args.plan.now.right ≡ Some c.in-Some.asked = search rules in
          let len : c.from.result * c.from-2.result ≡ page_len c.args.plan.now (g.St.Store.holds c.args.store.now).block_len = search rules in
          let old = g.St.Store.holds c.args.store.now in
          let s0 = g.St.Store.signs c.args.store.now in
          let s1 = g.St.Store.signs c.own_client-c.new.store in
          let s2 = g.St.Store.signs c.answer-result.new.store in
          let h3 = g.St.Store.holds c.end-c.new.store in
          let s3 = g.St.Store.signs c.end-c.new.store in
          let s4 = g.St.Store.signs c.end_client-2.new.self in
          let f = over c.answer-result.result.1.left (g.St.Store.holds c.answer-result.new.store) s2 in
          let k = over c.answer-result.result.1.right (g.St.Store.holds c.answer-result.new.store) s2 in
          let t = c.end-c.result.tracker in
          let ends = both_end_first f k s2 s3 c.end-c.ensures.leaves.grows c.end-c.ensures.first in
          on_ok c.answer-result.result.0 (λ kept. kept_joined c.args.plan.now c.in-Some.asked (c.from.result * c.from-2.result) (page_len c.args.plan.now old.block_len) (g.S.Source.remaining c.args.left.now) (g.S.Source.remaining c.args.right.now) f k
          old.session c.own_client-c.result.tracker old.query c.max.result c.least-bytes.result h3.session t h3.query (account_of t h3).reservation s0 s1 s2 s3 s4 planned
          c.own_client-c.ensures.entries kept ends c.end_client-2.ensures.entries len) c.answer-result.ensures.kept;
      store =
          let was = g.St.Store.holds c.args.store.now in
          let own = c.own_client-c.ensures.own in
          let first : c.in-Ok.op.client ≡ c.own_client-c.result = ap (λ (op : Operator). op.client) c.in-Ok.ensures.ok in
          let client : c.answer-result.result.1.client ≡ c.own_client-c.result = c.answer-result.ensures.op.1 ∙ first in
          let h1 = g.St.Store.holds c.own_client-c.new.store in
          let s1 = g.St.Store.signs c.own_client-c.new.store in
          let first_slots : join_slots c.in-Ok.op h1 s1 ≡ h1.free_slots = ap (λ (op : Operator). join_slots op h1 s1) c.in-Ok.ensures.ok ∙ none_joined c.own_client-c.result c.args.plan.now.page_blocks (join_shape_of c.args.plan.now c.in-Some.asked) h1 s1 in
          let leaves = c.answer-result.ensures.leaves in
          let then = c.end-c.ensures.leaves in
          let later = grows_trans _ _ _ then.grows c.end_client-2.ensures.grows in
          let grows = grows_trans _ _ _ leaves.grows later in
          let left : IsLeft was (after_end_client c.own_client-c.result.tracker (g.St.Store.holds c.end-c.new.store)) =
          left_around c.own_client-c.result c.max.result c.least-bytes.result was (g.St.Store.holds c.own_client-c.new.store) (g.St.Store.holds c.answer-result.new.store) (g.St.Store.holds c.end-c.new.store) (g.St.Store.signs c.own_client-c.new.store) (g.St.Store.signs c.answer-result.new.store) (g.St.Store.signs c.end-c.new.store) own c.requires.store.idle (rw first at leaves) (rw client at then) in
          let ended : g.St.Store.holds c.end_client-2.new.self ≡ after_end_client c.own_client-c.result.tracker (g.St.Store.holds c.end-c.new.store) =
          c.end_client-2.ensures.value ∙ ap (λ (t : ClientToken). after_end_client t.tracker (g.St.Store.holds c.end-c.new.store)) (c.end-c.ensures.client ∙ client) in
          record {
            reserves = rw (one_join c.args.plan.now was.block_len c.requires.groups) (reserves_first was.session c.own_client-c.result.tracker was.query c.max.result c.least-bytes.result (least_of c.args.plan.now was.block_len) (g.St.Store.signs c.args.store.now) (g.St.Store.signs c.own_client-c.new.store) (g.St.Store.signs c.end_client-2.new.self) c.own_client-c.ensures.entries grows (search rules) (search rules));
            left = rw ended left;
            free = rw ended (c.end-c.ensures.slots ∙ c.answer-result.ensures.slots ∙ first_slots ∙ own.free_slots);
            grows = grows_trans _ _ _ c.own_client-c.ensures.grows grows;
            made = λ tells.
                let s0 = g.St.Store.signs c.args.store.now in
                let s1 = g.St.Store.signs c.own_client-c.new.store in
                let s2 = g.St.Store.signs c.answer-result.new.store in
                let s3 = g.St.Store.signs c.end-c.new.store in
                let s4 = g.St.Store.signs c.end_client-2.new.self in
                through_around c.args.plan.now (both_told (g.S.Source.remaining c.args.left.now) (g.S.Source.remaining c.args.right.now)) s0 s1 s2 s4 (coming_makes _ _ _ _ _ s0 s1 c.own_client-c.ensures.entries) (c.answer-result.ensures.made (own.told ∙ tells))
                (few_both 0 0 0 s2 s3 s4 (omega arith) c.end-c.ensures.few (ending_makes _ _ _ _ s3 s4 c.end_client-2.ensures.entries));
          };
    }

pub returns-in-Err : goal.returns-in-Err
returns-in-Err g c =
    record {
      outside = nothing_read g.S.Source g.K.Sink c.args.plan.now _ _ _;
      pool = memory_stops c.args.plan.now (both_told (g.S.Source.remaining c.args.left.now) (g.S.Source.remaining c.args.right.now)) (g.St.Store.holds c.args.store.now) _ _;
      kept = tt;
      store =
          let was = g.St.Store.holds c.args.store.now in
          let own = c.own_client-c.ensures.own in
          let ended : g.St.Store.holds c.end_client.new.self ≡ after_end_client c.own_client-c.result.tracker (g.St.Store.holds c.own_client-c.new.store) =
          c.end_client.ensures.value ∙ ap (λ (t : ClientToken). after_end_client t.tracker (g.St.Store.holds c.own_client-c.new.store)) c.in-Err.ensures.err in
          record {
            reserves = rw (one_join c.args.plan.now was.block_len c.requires.groups) (reserves_first was.session c.own_client-c.result.tracker was.query c.max.result c.least-bytes.result (least_of c.args.plan.now was.block_len) (g.St.Store.signs c.args.store.now) (g.St.Store.signs c.own_client-c.new.store) (g.St.Store.signs c.end_client.new.self) c.own_client-c.ensures.entries c.end_client.ensures.grows (search rules) (search rules));
            left = rw ended (left_behind c.own_client-c.result _ _ was _ c.requires.store.idle own);
            free = rw ended own.free_slots;
            grows = grows_trans _ _ _ c.own_client-c.ensures.grows c.end_client.ensures.grows;
            made = λ tells.
                let s0 = g.St.Store.signs c.args.store.now in
                let s1 = g.St.Store.signs c.own_client-c.new.store in
                let s2 = g.St.Store.signs c.end_client.new.self in
                none_through c.args.plan.now (both_told (g.S.Source.remaining c.args.left.now) (g.S.Source.remaining c.args.right.now)) s0 s2 (few_both 0 0 0 s0 s1 s2 (omega arith) (coming_makes _ _ _ _ _ s0 s1 c.own_client-c.ensures.entries) (ending_makes _ _ _ _ s1 s2 c.end_client.ensures.entries));
          };
    }

pub answer-result-requires-clause-begins : goal.answer-result-requires-clause-begins
answer-result-requires-clause-begins g c =
    let planned : c.args.plan.now.right ≡ Some c.in-Some.asked = search rules in
    let has = joins_here c.args.plan.now c.in-Some.asked c.own_client-c.result _ _ (g.St.Store.holds c.args.store.now) (g.St.Store.holds c.own_client-c.new.store) (g.St.Store.signs c.own_client-c.new.store) c.law_starts.ensures.law c.requires.plan planned c.requires.groups c.own_client-c.ensures.own (search rules) in
    let len : c.from.result * c.from-2.result ≡ page_len c.args.plan.now (g.St.Store.holds c.args.store.now).block_len = search rules in
    let more = long_page c.args.plan.now (g.St.Store.holds c.args.store.now).block_len c.requires.plan.paged (search rules) in
    record {
      stands = rw c.in-Ok.ensures.ok (record { stands = record { is = has.op; feeding = has.feeding }; first = refl });
      shape_is = ap (λ (op : Operator). op.shape) c.in-Ok.ensures.ok;
      keeps = rw c.in-Ok.ensures.ok has.keeps;
      page_is = search rules;
      short = short_page c.from.result c.from-2.result (search rules) (search rules);
      long = omega (arith, len, more);
    }
