use Rattle.std.proofs.Common.{refl, ap, is_some}
use Rattle.pool_model.specs.declared.event.Event.TheVariants.{Free}
use Rattle.pool_model.specs.declared.bare.Bare.TheVariants as bare
use Rattle.pool_model.specs.Legal.{state_after}
use Rattle.trace_follow.proofs.Told.{told_as}
use Rattle.trace_follow.proofs.Entered.{quiet_accepted}
use Rattle.trace_follow.proofs.Lending.{buffer_ended}
use Rattle.trace_follow.proofs.Lent.{ended_entries, ended_reads}
use Rattle.trace_follow.proofs.follower.Follower.free_buffer.Goals as goal

pub returns : goal.returns
returns c =
    let old = c.args.self.now in
    let new = c.end_buffer.new.self in
    let row = c.in-Some.row in
    let ends = c.in_ok-end_buffer.ensures in
    quiet_accepted old new c.enter.new.self c.args.maker (Free c.args.f) (λ e is. told_as e (bare.Free c.args.f) is)
    (is_some c.own_buffer.result) (λ o h stands sound. c.own_buffer.ensures.judges (state_after o h) stands.shows)
    (ap is_some c.in-Some.is) c.requires c.enter.result c.enter.ensures.followed c.enter.ensures.counted c.enter.ensures.few
    (record { no_start = refl; no_call = refl; no_failure = λ p. refl }) (ended_reads old new c.args.f row ends) (ended_entries old new c.args.f row ends)
    (λ o h stands sound may. buffer_ended old new (state_after o h) c.args.f row stands.shows sound.within.memory c.in-Some.ensures.row ends)
