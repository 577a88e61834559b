use Rattle.std.proofs.Common.{◌≡◌, ◌+◌, ℕ, Some, is_some, option_map, refl, ap, sym, ◌∙◌, subst, inl, arith}
use Rattle.std.specs.FinMap.{get}
use Rattle.pool_model.specs.declared.event.Event.{Event}
use Rattle.pool_model.specs.declared.event.Event.TheVariants.{WriteFailed}
use Rattle.pool_model.specs.declared.bare.Bare.TheVariants as bare
use Rattle.pool_model.specs.State.{State}
use Rattle.pool_model.specs.Sums.{is_clean}
use Rattle.pool_model.specs.ScratchRows.{MayEndWrite, MayFailWrite}
use Rattle.pool_model.specs.Parts.{note_failure}
use Rattle.pool_model.specs.MayFollow.{Allows}
use Rattle.pool_model.specs.Effects.{effect, count_entry}
use Rattle.pool_model.specs.Legal.{state_after}
use Rattle.pool_model.specs.Orders.{is_dirty}
use Rattle.trace_follow.specs.declared.rows.Asked.{Asked}
use Rattle.trace_follow.specs.declared.rows.PageRow.{PageRow}
use Rattle.trace_follow.specs.declared.follower.Follower.{Follower}
use Rattle.trace_follow.specs.Showing.{Shows}
use Rattle.trace_follow.specs.Noting.{failing}
use Rattle.trace_follow.proofs.Told.{Told, told_as}
use Rattle.trace_follow.proofs.Standing.{IsQuiet, SameReads}
use Rattle.trace_follow.proofs.Noting.{changes_kept, failure_noted}
use Rattle.trace_follow.proofs.Pushed.{hidden_accepted}
use Rattle.trace_follow.proofs.Unwritten.{unwritten_shown}
use Rattle.trace_follow.proofs.follower.Follower.write_failed.Goals as goal

pub returns : goal.returns
returns c =
    let p : ℕ = c.args.p in
    let m : ℕ = c.args.maker in
    let old : Follower = c.args.self.now in
    let noted : Follower = c.note_failure.new.self in
    let mid : Follower = c.put_page.new.self in
    let new : Follower = c.queue_dirty.new.self in
    let row : PageRow = c.in-Some.row in
    let live : get old.pages p ≡ Some row = c.in-Some.ensures.row in
    let changes = c.in_ok-note_failure.ensures.asked in
    let rest = c.note_failure.ensures.rest in
    let moves = c.in_ok-put_page.ensures in
    let queues = c.in_ok-queue_dirty.ensures in
    let there : get noted.pages p ≡ Some row = ap (λ (u : Follower). get u.pages p) rest ∙ live in
    let first : SameReads old.asked noted.asked = changes_kept (failing row.client old.entries) (λ a. refl) old.asked noted.asked row.session changes in
    let same : SameReads old.asked new.asked = λ maker.
    ap (λ (u : Follower). option_map (λ (x : Asked). x.reads) (get u.asked maker)) queues.is ∙ ap (λ (u : Follower). option_map (λ (x : Asked). x.reads) (get u.asked maker)) moves.is ∙ first maker
    in
    let kept : new.entries ≡ old.entries = ap (λ (u : Follower). u.entries) queues.is ∙ ap (λ (u : Follower). u.entries) moves.is ∙ ap (λ (u : Follower). u.entries) rest in
    hidden_accepted old new c.enter.new.self m (bare.WriteFailed p)
    (λ e told. let t : Told e (bare.WriteFailed p) = told_as e (bare.WriteFailed p) told in subst IsQuiet (sym t.2) (record { no_start = refl; no_call = refl; no_failure = λ q. refl })) same kept
    (λ o h e stands sound told allows few.
    let s : State = state_after o h in
    let t : Told e (bare.WriteFailed p) = told_as e (bare.WriteFailed p) told in
    let may : MayFailWrite s m p t.0 t.1 = subst (λ (d : Event). Allows h s m d) t.2 allows in
    let shown : Shows noted (note_failure p s) = failure_noted old noted s p row stands.shows live rest changes in
    subst (λ (d : Event). Shows (record new { entries = new.entries + 1 }) (count_entry (effect m d s))) (sym t.2)
    (unwritten_shown old noted mid new p row o h may.ends.page stands sound live there shown moves queues may.ends.lives (ap is_dirty may.ends.flying) (ap is_clean may.ends.flying) few))
    c.enter.result c.enter.ensures.followed c.enter.ensures.counted c.enter.ensures.few
    (λ o h stands sound.
    let can : MayEndWrite (state_after o h) m p = (c.flying.ensures.judges (state_after o h) stands.shows).0 (ap is_some c.in-Some.is) in
    let may : MayFailWrite (state_after o h) m p 0 1 = record { ends = can; fault = inl (omega arith) } in
    record { event = WriteFailed p 0 1; same = refl; makes = c.requires; allows = may })
