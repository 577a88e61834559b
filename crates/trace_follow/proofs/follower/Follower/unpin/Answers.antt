use Rattle.std.proofs.Common.{ℕ, ◌+◌, is_some, List, replicate, refl, ap, sym, subst}
use Rattle.std.proofs.lemmas.List.{length-replicate}
use Rattle.pool_model.specs.declared.event.Event.{Event}
use Rattle.pool_model.specs.declared.event.Event.TheVariants.{Unpin}
use Rattle.pool_model.specs.declared.bare.Bare.TheVariants as bare
use Rattle.pool_model.specs.State.{State}
use Rattle.pool_model.specs.Sums.{length_of}
use Rattle.pool_model.specs.PageRows.{MayUnpin}
use Rattle.pool_model.specs.MayFollow.{Allows}
use Rattle.pool_model.specs.Effects.{effect, count_entry}
use Rattle.pool_model.specs.Legal.{state_after}
use Rattle.trace_follow.specs.declared.rows.PageRow.{PageRow}
use Rattle.trace_follow.specs.declared.follower.Follower.{Follower}
use Rattle.trace_follow.specs.Showing.{Shows}
use Rattle.trace_follow.specs.Unpinning.{CanUnpin}
use Rattle.trace_follow.proofs.Told.{Told, told_as}
use Rattle.trace_follow.proofs.Standing.{IsQuiet}
use Rattle.trace_follow.proofs.Pushed.{hidden_accepted}
use Rattle.trace_follow.proofs.Unpinned.{unpin_entries, unpin_reads, unpin_shown}
use Rattle.trace_follow.proofs.follower.Follower.unpin.Goals as goal

pub returns : goal.returns
returns c =
    let p : ℕ = c.args.p in
    let m : ℕ = c.args.maker in
    let old : Follower = c.args.self.now in
    let lends : Follower = c.lend_slots.new.self in
    let mid : Follower = c.put_page.new.self in
    let new : Follower = c.queue_dirty.new.self in
    let row : PageRow = c.in-Some.row in
    let live = c.in-Some.ensures.row in
    let slots = c.in_ok-lend_slots.ensures in
    let moves = c.in_ok-put_page.ensures in
    let queues = c.in_ok-queue_dirty.ensures in
    hidden_accepted old new c.enter.new.self m (bare.Unpin p)
    (λ e same. let t : Told e (bare.Unpin p) = told_as e (bare.Unpin p) same in subst IsQuiet (sym t.1) (record { no_start = refl; no_call = refl; no_failure = λ q. refl }))
    (unpin_reads old lends mid new p row live slots moves queues) (unpin_entries old lends mid new p row live slots moves queues)
    (λ o h e stands sound same allows few.
    let s : State = state_after o h in
    let t : Told e (bare.Unpin p) = told_as e (bare.Unpin p) same in
    let may : MayUnpin s m p t.0 = subst (λ (d : Event). Allows h s m d) t.1 allows in
    subst (λ (d : Event). Shows (record new { entries = new.entries + 1 }) (count_entry (effect m d s))) (sym t.1)
    (unpin_shown old lends mid new p row live slots moves queues o h may.page stands sound may.own.lives may.pinned few))
    c.enter.result c.enter.ensures.followed c.enter.ensures.counted c.enter.ensures.few
    (λ o h stands sound.
    let s : State = state_after o h in
    let can : CanUnpin s m p = (c.unpinnable.ensures.judges s stands.shows).0 (ap is_some c.in-Some.is) in
    let content : List ℕ = replicate (length_of s can.page.blocks) 0 in
    let may : MayUnpin s m p content = record { page = can.page; own = can.own; pinned = can.pinned; whole = length-replicate (length_of s can.page.blocks) 0; slots = can.slots } in
    record { event = Unpin p content; same = refl; makes = c.requires; allows = may })
