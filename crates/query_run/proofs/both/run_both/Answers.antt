use Rattle.std.proofs.Common.{◌≡◌, ◌∙◌, ◌*◌, ◌/◌, ◌≤◌, ◌<◌, ℕ, IfSome, Some, true, [], ◌∷◌, ap, arith, refl, rules, subst, sym}
use Rattle.store_api.proofs.Growing.{grows_trans}
use Rattle.store_api.specs.Changes.{after_end_client}
use Rattle.store_api.specs.Holdings.{account_of}
use Rattle.store_api.specs.Tokens.{ClientToken}
use Rattle.reservation_tree.specs.declared.errors.PoolErr.{PoolErr}
use Rattle.partition_stack.specs.Slots.{IsWantBelow}
use Rattle.partition_stack.proofs.Making.{few_both}
use Rattle.partition_stack.proofs.Results.{if_err, on_ok}
use Rattle.join_op.proofs.Besides.{beside_none}
use Rattle.join_op.specs.Operator.{Operator}
use Rattle.query_plan.specs.Sizes.{least_of, page_len}
use Rattle.query_run.specs.Both.{both_told}
use Rattle.query_run.specs.Causes.{OfPool}
use Rattle.query_run.specs.Inside.{HasEndedFirst}
use Rattle.query_run.specs.Plans.{join_shape_of}
use Rattle.query_run.specs.Stopped.{IsLeft, StoppedOver}
use Rattle.query_run.specs.Taking.{join_slots}
use Rattle.query_run.proofs.Around.{WantsEnough, stopped_around}
use Rattle.query_run.proofs.BothWants.{both_wants, slots_told}
use Rattle.query_run.proofs.Counted.{coming_makes, ending_makes, none_through, through_around}
use Rattle.query_run.proofs.EndedFirst.{ended_first}
use Rattle.query_run.proofs.Going.{of_pool_so}
use Rattle.query_run.proofs.JoinWants.{none_joined}
use Rattle.query_run.proofs.KeptFirst.{reserves_first, reserves_more}
use Rattle.query_run.proofs.KeptPairs.{kept_two}
use Rattle.query_run.proofs.Results.{both_err}
use Rattle.query_run.proofs.Runs.{nothing_read, read_and_wrote_at}
use Rattle.query_run.proofs.Says.{memory_stops}
use Rattle.query_run.proofs.TwoClients.{first_still, left_both, share_is, two_apart, two_shares}
use Rattle.query_run.proofs.Wants.{long_page}
use Rattle.query_run.proofs.both.run_both.Goals as goal

pub own_client-second-requires-clause-room : goal.own_client-second-requires-clause-room
own_client-second-requires-clause-room g c =
    let own = c.own_client-first.ensures.own.room in
    let has = c.requires.store.room in
    let is : c.least-bytes.result ≡ least_of c.args.plan.now (g.St.Store.holds c.args.store.now).block_len = search rules in
    omega (arith, own, has, is)

pub own_client-second-requires-clause-few : goal.own_client-second-requires-clause-few
own_client-second-requires-clause-few g c =
    let own = c.own_client-first.ensures.own.live_clients in
    let none = c.requires.store.idle in
    omega (arith, own, none)

pub returns : goal.returns
returns g c =
    let len : c.from.result * c.from-2.result ≡ page_len c.args.plan.now (g.St.Store.holds c.args.store.now).block_len = search rules in
    record {
      outside = read_and_wrote_at g.S.Source g.K.Sink c.args.plan.now _ _ _ _ _ _ c.answer-result.result.0 len (c.own_client-second.ensures.own.told ∙ c.own_client-first.ensures.own.told) c.answer-result.ensures.outside;
      pool =
          let one = c.own_client-first in
          let two = c.own_client-second in
          let plan = c.args.plan.now in
          let asked = c.in-Some.asked in
          let join = c.in-Ok.join in
          let lefts = g.S.Source.remaining c.args.left.now in
          let rights = g.S.Source.remaining c.args.right.now in
          let h0 = g.St.Store.holds c.args.store.now in
          let h2 = g.St.Store.holds two.new.store in
          let s2 = g.St.Store.signs two.new.store in
          let grows = grows_trans _ _ _ one.ensures.grows two.ensures.grows in
          let page = c.from.result * c.from-2.result in
          let len : page ≡ page_len plan h0.block_len = search rules in
          let long : 0 < page = subst (λ (n : ℕ). 0 < n) (sym len) (long_page plan h0.block_len c.requires.plan.paged (search rules)) in
          let slots : join_slots join h2 s2 ≡ h0.free_slots = ap (λ (o : Operator). join_slots o h2 s2) c.in-Ok.ensures.ok ∙ none_joined one.result plan.page_blocks (join_shape_of plan asked) h2 s2 ∙ two.ensures.own.free_slots ∙ one.ensures.own.free_slots in
          let tells = two.ensures.own.told ∙ one.ensures.own.told in
          let wants : PoolErr → Type 0 =
          λ why. h2.told ≡ true → IfSome (both_told lefts rights) (λ both. IsWantBelow (slots_told plan page both) (join_slots join h2 s2) why) in
          if_err c.answer-result.result.0 (λ e both. stopped_around plan (both_told lefts rights) plan.page_blocks (join_slots join h2 s2) h0 _ _ _ _ e refl slots grows c.end_client-2.ensures.grows both.0
          (of_pool_so wants (WantsEnough plan (both_told lefts rights) h0)
          (λ why below told. both_wants plan lefts rights h0 (join_slots join h2 s2) page why len long slots (below (tells ∙ told))) e both.1))
          (both_err (StoppedOver plan.page_blocks (join_slots join h2 s2) s2 (g.St.Store.signs c.answer-result.new.store)) (OfPool wants) c.answer-result.result.0 c.answer-result.ensures.pool c.answer-result.ensures.enough);
      kept =
          let planned : c.args.plan.now.right ≡ Some c.in-Some.asked = search rules in
          let old = g.St.Store.holds c.args.store.now in
          let len : c.from.result * c.from-2.result ≡ page_len c.args.plan.now old.block_len = search rules in
          let one = c.own_client-first in
          let two = c.own_client-second in
          let h1 = g.St.Store.holds one.new.store in
          let h3 = g.St.Store.holds c.answer-result.new.store in
          let share = c.least-bytes.result / 2 in
          let t = c.answer-result.result.1.tracker in
          on_ok c.answer-result.result.0 (λ kept. kept_two c.args.plan.now c.in-Some.asked (c.from.result * c.from-2.result) (page_len c.args.plan.now old.block_len) (g.S.Source.remaining c.args.left.now) (g.S.Source.remaining c.args.right.now)
          old.session one.result.tracker old.query c.max-limit.result share h1.session two.result.tracker h1.query c.max-limit.result share h3.session t h3.query (account_of t h3).reservation
          (g.St.Store.signs c.args.store.now) (g.St.Store.signs one.new.store) (g.St.Store.signs two.new.store) (g.St.Store.signs c.answer-result.new.store) (g.St.Store.signs c.end_client-2.new.self) planned one.ensures.entries two.ensures.entries kept c.end_client-2.ensures.entries len) c.answer-result.ensures.kept;
      store =
          let was = g.St.Store.holds c.args.store.now in
          let one = c.own_client-first in
          let two = c.own_client-second in
          let h1 = g.St.Store.holds one.new.store in
          let h2 = g.St.Store.holds two.new.store in
          let h3 = g.St.Store.holds c.answer-result.new.store in
          let s2 = g.St.Store.signs two.new.store in
          let s3 = g.St.Store.signs c.answer-result.new.store in
          let slots : join_slots c.in-Ok.join h2 s2 ≡ was.free_slots = ap (λ (o : Operator). join_slots o h2 s2) c.in-Ok.ensures.ok ∙ none_joined one.result c.args.plan.now.page_blocks (join_shape_of c.args.plan.now c.in-Some.asked) h2 s2 ∙ two.ensures.own.free_slots ∙ one.ensures.own.free_slots in
          let share = c.least-bytes.result / 2 in
          let client : c.in-Ok.join.client ≡ one.result = ap (λ (op : Operator). op.client) c.in-Ok.ensures.ok in
          let gone : HasEndedFirst one.result.tracker two.result.tracker h2 h3 s2 s3 = subst (λ (x : ClientToken). HasEndedFirst x.tracker two.result.tracker h2 h3 s2 s3) client c.answer-result.ensures.clients.1 in
          let left : IsLeft was (after_end_client two.result.tracker h3) = left_both one.result two.result _ _ c.args.plan.now.page_blocks was h1 h2 one.ensures.own two.ensures.own h3 s2 s3 c.requires.store.idle gone in
          let ended : g.St.Store.holds c.end_client-2.new.self ≡ after_end_client two.result.tracker h3 = c.end_client-2.ensures.value ∙ ap (λ (x : ClientToken). after_end_client x.tracker h3) c.answer-result.ensures.clients.0.same in
          let last = grows_trans _ _ _ gone.grows c.end_client-2.ensures.grows in
          let fits : share ≤ c.max-limit.result = search rules in
          let more = reserves_first h1.session two.result.tracker h1.query c.max-limit.result share share (g.St.Store.signs one.new.store) s2 (g.St.Store.signs c.end_client-2.new.self) two.ensures.entries last fits refl in
          record {
            reserves = rw (two_shares c.args.plan.now was.block_len c.least-bytes.result c.requires.joins c.requires.groups (search rules)) (reserves_more was.session one.result.tracker was.query c.max-limit.result share share (share ∷ []) (g.St.Store.signs c.args.store.now) (g.St.Store.signs one.new.store) (g.St.Store.signs c.end_client-2.new.self) one.ensures.entries (rw one.ensures.own.query at more) fits refl);
            left = rw ended left;
            free = rw ended (c.answer-result.ensures.free ∙ slots);
            grows = grows_trans _ _ _ one.ensures.grows (grows_trans _ _ _ two.ensures.grows last);
            made = λ tells.
                let s0 = g.St.Store.signs c.args.store.now in
                let s1 = g.St.Store.signs one.new.store in
                let s4 = g.St.Store.signs c.end_client-2.new.self in
                let came = few_both 0 0 0 s0 s1 s2 (omega arith) (coming_makes _ _ _ _ _ s0 s1 one.ensures.entries) (coming_makes _ _ _ _ _ s1 s2 two.ensures.entries) in
                through_around c.args.plan.now (both_told (g.S.Source.remaining c.args.left.now) (g.S.Source.remaining c.args.right.now)) s0 s2 s3 s4 came (c.answer-result.ensures.made (two.ensures.own.told ∙ one.ensures.own.told ∙ tells)) (ending_makes _ _ _ _ s3 s4 c.end_client-2.ensures.entries);
          };
    }

pub returns-in-Err : goal.returns-in-Err
returns-in-Err g c = record {
  outside = nothing_read g.S.Source g.K.Sink c.args.plan.now _ _ _;
  pool = memory_stops c.args.plan.now _ _ _ _;
  kept = tt;
  store =
      let was = g.St.Store.holds c.args.store.now in
      let one = c.own_client-first in
      let two = c.own_client-second in
      let h1 = g.St.Store.holds one.new.store in
      let h2 = g.St.Store.holds two.new.store in
      let s2 = g.St.Store.signs two.new.store in
      let share = c.least-bytes.result / 2 in
      let apart = two_apart one.result two.result _ _ c.args.plan.now.page_blocks was h1 h2 one.ensures.own two.ensures.own in
      let ended : g.St.Store.holds c.end_client.new.self ≡ after_end_client one.result.tracker h2 = c.end_client.ensures.value ∙ ap (λ (x : ClientToken). after_end_client x.tracker h2) c.in-Err.ensures.err in
      let first : HasEndedFirst one.result.tracker two.result.tracker h2 (after_end_client one.result.tracker h2) s2 (g.St.Store.signs c.end_client.new.self) = ended_first one.result.tracker two.result.tracker apart h2 h2 s2 s2 _ (beside_none one.result.tracker (Some two.result.tracker) h2 s2) c.end_client.ensures.grows in
      let left : IsLeft was (after_end_client two.result.tracker (after_end_client one.result.tracker h2)) = left_both one.result two.result _ _ c.args.plan.now.page_blocks was h1 h2 one.ensures.own two.ensures.own _ s2 _ c.requires.store.idle first in
      let last = grows_trans _ _ _ c.end_client.ensures.grows c.end_client-in-Err.ensures.grows in
      let fits : share ≤ c.max-limit.result = search rules in
      let more = reserves_first h1.session two.result.tracker h1.query c.max-limit.result share share (g.St.Store.signs one.new.store) s2 (g.St.Store.signs c.end_client-in-Err.new.self) two.ensures.entries last fits refl in
      record {
        reserves = rw (two_shares c.args.plan.now was.block_len c.least-bytes.result c.requires.joins c.requires.groups (search rules)) (reserves_more was.session one.result.tracker was.query c.max-limit.result share share (share ∷ []) (g.St.Store.signs c.args.store.now) (g.St.Store.signs one.new.store) (g.St.Store.signs c.end_client-in-Err.new.self) one.ensures.entries (rw one.ensures.own.query at more) fits refl);
        left = rw (c.end_client-in-Err.ensures.value, ended) left;
        free = rw (c.end_client-in-Err.ensures.value, ended) (two.ensures.own.free_slots ∙ one.ensures.own.free_slots);
        grows = grows_trans _ _ _ one.ensures.grows (grows_trans _ _ _ two.ensures.grows last);
        made = λ tells.
            let s0 = g.St.Store.signs c.args.store.now in
            let s1 = g.St.Store.signs one.new.store in
            let s3 = g.St.Store.signs c.end_client.new.self in
            let s4 = g.St.Store.signs c.end_client-in-Err.new.self in
            let came = few_both 0 0 0 s0 s1 s2 (omega arith) (coming_makes _ _ _ _ _ s0 s1 one.ensures.entries) (coming_makes _ _ _ _ _ s1 s2 two.ensures.entries) in
            let ends = few_both 0 0 0 s2 s3 s4 (omega arith) (ending_makes _ _ _ _ s2 s3 c.end_client.ensures.entries) (ending_makes _ _ _ _ s3 s4 c.end_client-in-Err.ensures.entries) in
            none_through c.args.plan.now (both_told (g.S.Source.remaining c.args.left.now) (g.S.Source.remaining c.args.right.now)) s0 s4 (few_both 0 0 0 s0 s2 s4 (omega arith) came ends);
      };
}

pub answer-result-requires-clause-stands : goal.answer-result-requires-clause-stands
answer-result-requires-clause-stands g c =
    let was = g.St.Store.holds c.args.store.now in
    let one = c.own_client-first in
    let two = c.own_client-second in
    let planned : c.args.plan.now.right ≡ Some c.in-Some.asked = search rules in
    let is : c.least-bytes.result / 2 ≡ 20 * page_len c.args.plan.now was.block_len = share_is c.args.plan.now was.block_len c.least-bytes.result c.requires.joins c.requires.groups (search rules) in
    let may = first_still one.result two.result _ _ c.args.plan.now.page_blocks was _ _ one.ensures.own two.ensures.own is in
    let has = c.law_starts.ensures.law one.result c.args.plan.now.page_blocks (join_shape_of c.args.plan.now c.in-Some.asked) (g.St.Store.holds two.new.store) (g.St.Store.signs two.new.store) (rw planned at c.requires.plan.join) c.requires.plan.paged may in
    rw c.in-Ok.ensures.ok (record { stands = record { is = has.op; feeding = has.feeding }; first = refl })

pub answer-result-requires-clause-keeps : goal.answer-result-requires-clause-keeps
answer-result-requires-clause-keeps g c =
    let was = g.St.Store.holds c.args.store.now in
    let one = c.own_client-first in
    let two = c.own_client-second in
    let planned : c.args.plan.now.right ≡ Some c.in-Some.asked = search rules in
    let is : c.least-bytes.result / 2 ≡ 20 * page_len c.args.plan.now was.block_len = share_is c.args.plan.now was.block_len c.least-bytes.result c.requires.joins c.requires.groups (search rules) in
    let may = first_still one.result two.result _ _ c.args.plan.now.page_blocks was _ _ one.ensures.own two.ensures.own is in
    let has = c.law_starts.ensures.law one.result c.args.plan.now.page_blocks (join_shape_of c.args.plan.now c.in-Some.asked) (g.St.Store.holds two.new.store) (g.St.Store.signs two.new.store) (rw planned at c.requires.plan.join) c.requires.plan.paged may in
    rw c.in-Ok.ensures.ok has.keeps
