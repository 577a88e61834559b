use Rattle.std.proofs.Common.{subst, sym}
use Rattle.std.specs.List.{flat_map}
use Rattle.partition_stack.proofs.Results.{if_err, on_ok}
use Rattle.query_run.specs.Batches.{first_rows, rows_in}
use Rattle.query_run.specs.Taking.{GroupFeeds}
use Rattle.query_run.proofs.Batched.{one_batch_more}
use Rattle.query_run.proofs.Taken.{group_feeds_then, group_goes_then, group_stops}
use Rattle.query_run.proofs.fed_batches.GroupOpFeederBatchPoolErr.take.Goals as goal

pub returns-clause-ok : goal.returns-clause-ok
returns-clause-ok g c =
    on_ok c.feed_rows-fed.result (λ fed first before items was.
    let these : GroupFeeds c.args.self.now c.feed_rows-fed.new.op (rows_in c.args.item) _ _ _ _ =
    subst (λ l. GroupFeeds c.args.self.now c.feed_rows-fed.new.op (first_rows c.args.item.len l) (g.St.Store.holds c.args.beside.now) (g.St.Store.holds c.feed_rows-fed.new.store) (g.St.Store.signs c.args.beside.now) (g.St.Store.signs c.feed_rows-fed.new.store)) c.as_slice.ensures.value fed in
    let both = group_feeds_then first _ _ (flat_map rows_in items) (rows_in c.args.item) _ _ _ _ _ _ was these in
    subst (λ rows. GroupFeeds first c.feed_rows-fed.new.op rows (g.St.Store.holds before) (g.St.Store.holds c.feed_rows-fed.new.store) (g.St.Store.signs before) (g.St.Store.signs c.feed_rows-fed.new.store)) (sym (one_batch_more items c.args.item)) both) c.feed_rows-fed.ensures.ok

pub returns-clause-went : goal.returns-clause-went
returns-clause-went g c = λ first before went. group_goes_then first _ _ _ _ _ _ _ _ went c.feed_rows-fed.ensures.goes

pub returns-clause-cause : goal.returns-clause-cause
returns-clause-cause g c = if_err c.feed_rows-fed.result (λ e stopped first before went. group_stops first _ _ _ _ _ _ e went stopped) c.feed_rows-fed.ensures.cause
