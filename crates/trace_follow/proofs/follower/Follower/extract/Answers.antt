use Rattle.std.proofs.Common.{refl, ap, is_some}
use Rattle.pool_model.specs.declared.event.Event.TheVariants.{Extract}
use Rattle.pool_model.specs.declared.bare.Bare.TheVariants as bare
use Rattle.pool_model.specs.Legal.{state_after}
use Rattle.trace_follow.specs.declared.rows.BufferRow.{BufferRow}
use Rattle.trace_follow.proofs.Told.{told_as}
use Rattle.trace_follow.proofs.Entered.{quiet_accepted}
use Rattle.trace_follow.proofs.Lending.{page_lent}
use Rattle.trace_follow.proofs.Lent.{added_entries, added_reads, page_entries, page_reads, then_entries, then_reads}
use Rattle.trace_follow.proofs.follower.Follower.extract.Goals as goal

pub returns : goal.returns
returns c =
    let old = c.args.self.now in
    let mid = c.end_page.new.self in
    let new = c.add_buffer.new.self in
    let row = c.in-Some.row in
    let to : BufferRow = record { client = row.client; blocks = row.blocks } in
    let ends = c.in_ok-end_page.ensures in
    let adds = c.in_ok-add_buffer.ensures in
    quiet_accepted old new c.enter.new.self c.args.maker (Extract c.args.p c.args.f) (λ e is. told_as e (bare.Extract c.args.p c.args.f) is)
    (is_some c.extractable.result) (λ o h stands sound. c.extractable.ensures.judges (state_after o h) stands.shows)
    (ap is_some c.in-Some.is) c.requires c.enter.result c.enter.ensures.followed c.enter.ensures.counted c.enter.ensures.few
    (record { no_start = refl; no_call = refl; no_failure = λ p. refl })
    (then_reads old mid new (added_reads mid new c.args.f to adds) (page_reads old mid c.args.p row ends))
    (then_entries old mid new (added_entries mid new c.args.f to adds) (page_entries old mid c.args.p row ends))
    (λ o h stands sound may. page_lent old mid new (state_after o h) c.args.p c.args.f row stands.shows sound.within.memory c.in-Some.ensures.row c.in-Some.ensures.fresh ends adds)
