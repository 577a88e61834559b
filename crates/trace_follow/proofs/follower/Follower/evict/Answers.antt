use Rattle.std.proofs.Common.{refl, ap, is_some}
use Rattle.pool_model.specs.State as model
use Rattle.pool_model.specs.declared.event.Event.TheVariants.{Evict}
use Rattle.pool_model.specs.declared.bare.Bare.TheVariants as bare
use Rattle.pool_model.specs.Legal.{state_after}
use Rattle.trace_follow.specs.declared.rows.Place.TheVariants as spot
use Rattle.trace_follow.proofs.Told.{told_as}
use Rattle.trace_follow.proofs.Entered.{quiet_accepted}
use Rattle.trace_follow.proofs.Placing.{placed_out, entries_kept, reads_kept}
use Rattle.trace_follow.proofs.follower.Follower.evict.Goals as goal

pub returns : goal.returns
returns c =
    let old = c.args.self.now in
    let mid = c.unqueue.new.self in
    let new = c.put_page.new.self in
    let row = c.in-Some.row in
    let to = record row { place = spot.Evicted } in
    let out = c.in_ok-unqueue.ensures in
    let moves = c.in_ok-put_page.ensures in
    quiet_accepted old new c.enter.new.self c.args.maker (Evict c.args.p) (λ e is. told_as e (bare.Evict c.args.p) is)
    (is_some c.evictable.result) (λ o h stands sound. c.evictable.ensures.judges (state_after o h) stands.shows)
    (ap is_some c.in-Some.is) c.requires c.enter.result c.enter.ensures.followed c.enter.ensures.counted c.enter.ensures.few
    (record { no_start = refl; no_call = refl; no_failure = λ p. refl })
    (reads_kept old mid new c.args.p row to c.in-Some.ensures.row out moves) (entries_kept old mid new c.args.p row to c.in-Some.ensures.row out moves)
    (λ o h stands sound may. placed_out old mid new c.args.p row to c.in-Some.ensures.row out moves o h stands sound (spot.Evicted) (model.Evicted) refl refl)
