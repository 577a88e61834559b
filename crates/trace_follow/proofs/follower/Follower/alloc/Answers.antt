use Rattle.std.proofs.Common.{refl}
use Rattle.pool_model.specs.declared.event.Event.TheVariants.{Alloc}
use Rattle.pool_model.specs.declared.bare.Bare.TheVariants as bare
use Rattle.pool_model.specs.Legal.{state_after}
use Rattle.trace_follow.specs.declared.rows.BufferRow.{BufferRow}
use Rattle.trace_follow.proofs.Told.{told_as}
use Rattle.trace_follow.proofs.Entered.{quiet_accepted}
use Rattle.trace_follow.proofs.Lending.{buffer_came}
use Rattle.trace_follow.proofs.Lent.{added_entries, added_reads}
use Rattle.trace_follow.proofs.follower.Follower.alloc.Goals as goal

pub returns : goal.returns
returns c =
    let old = c.args.self.now in
    let new = c.add_buffer.new.self in
    let row : BufferRow = record { client = c.args.client; blocks = c.args.blocks } in
    let adds = c.in_ok-add_buffer.ensures in
    quiet_accepted old new c.enter.new.self c.args.maker (Alloc c.args.f c.args.client c.args.blocks) (λ e is. told_as e (bare.Alloc c.args.f c.args.client c.args.blocks) is)
    c.may_alloc.result (λ o h stands sound. c.may_alloc.ensures.judges (state_after o h) stands.shows)
    c.if-not-may_alloc.false c.requires c.enter.result c.enter.ensures.followed c.enter.ensures.counted c.enter.ensures.few
    (record { no_start = refl; no_call = refl; no_failure = λ p. refl }) (added_reads old new c.args.f row adds) (added_entries old new c.args.f row adds)
    (λ o h stands sound may. buffer_came old new (state_after o h) c.args.f (record { client = c.args.client; blocks = c.args.blocks }) stands.shows (c.may_alloc.ensures.fresh c.if-not-may_alloc.false) adds)
