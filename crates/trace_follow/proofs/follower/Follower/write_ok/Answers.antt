use Rattle.std.proofs.Common.{refl, ap, is_some}
use Rattle.pool_model.specs.declared.event.Event.TheVariants.{WriteOk}
use Rattle.pool_model.specs.declared.bare.Bare.TheVariants as bare
use Rattle.pool_model.specs.Sums.{is_clean}
use Rattle.pool_model.specs.Orders.{is_dirty}
use Rattle.pool_model.specs.Legal.{state_after}
use Rattle.trace_follow.proofs.Told.{told_as}
use Rattle.trace_follow.proofs.Pushed.{pushed_accepted, clean_entries, clean_reads, clean_shown}
use Rattle.trace_follow.proofs.follower.Follower.write_ok.Goals as goal

pub returns : goal.returns
returns c =
    let old = c.args.self.now in
    let mid = c.put_page.new.self in
    let new = c.queue_clean.new.self in
    let row = c.in-Some.row in
    let live = c.in-Some.ensures.row in
    let moves = c.in_ok-put_page.ensures in
    let queues = c.in_ok-queue_clean.ensures in
    pushed_accepted old new c.enter.new.self c.args.maker (WriteOk c.args.p) (λ e is. told_as e (bare.WriteOk c.args.p) is)
    (is_some c.flying.result) (λ o h stands sound. c.flying.ensures.judges (state_after o h) stands.shows)
    (ap is_some c.in-Some.is) c.requires c.enter.result c.enter.ensures.followed c.enter.ensures.counted c.enter.ensures.few
    (record { no_start = refl; no_call = refl; no_failure = λ p. refl })
    (clean_reads old mid new c.args.p row live moves queues) (clean_entries old mid new c.args.p row live moves queues)
    (λ o h stands sound may few. clean_shown old mid new c.args.p row live moves queues o h may.page stands sound may.lives (ap is_dirty may.flying) (ap is_clean may.flying) few)
