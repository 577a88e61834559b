use Rattle.std.proofs.Common.{refl, ap, is_some}
use Rattle.pool_model.specs.declared.event.Event.TheVariants.{Destroy}
use Rattle.pool_model.specs.declared.bare.Bare.TheVariants as bare
use Rattle.pool_model.specs.Legal.{state_after}
use Rattle.trace_follow.proofs.Told.{told_as}
use Rattle.trace_follow.proofs.Entered.{quiet_accepted}
use Rattle.trace_follow.proofs.Placing.{ended_out, ended_entries, ended_reads}
use Rattle.trace_follow.proofs.follower.Follower.destroy.Goals as goal

pub returns : goal.returns
returns c =
    let old = c.args.self.now in
    let mid = c.unqueue.new.self in
    let new = c.end_page.new.self in
    let row = c.in-Some.row in
    let live = c.in-Some.ensures.row in
    let out = c.in_ok-unqueue.ensures in
    let ends = c.in_ok-end_page.ensures in
    quiet_accepted old new c.enter.new.self c.args.maker (Destroy c.args.p) (λ e is. told_as e (bare.Destroy c.args.p) is)
    (is_some c.resting.result) (λ o h stands sound. c.resting.ensures.judges (state_after o h) stands.shows)
    (ap is_some c.in-Some.is) c.requires c.enter.result c.enter.ensures.followed c.enter.ensures.counted c.enter.ensures.few
    (record { no_start = refl; no_call = refl; no_failure = λ p. refl })
    (ended_reads old mid new c.args.p row live out ends) (ended_entries old mid new c.args.p row live out ends)
    (λ o h stands sound may. ended_out old mid new c.args.p row live out ends o h stands sound)
