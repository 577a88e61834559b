use Rattle.std.proofs.Common.{◌∙◌, ap, refl, sym, option_map, None, subst}
use Rattle.std.specs.FinMap.{get}
use Rattle.pool_model.specs.declared.event.Event.TheVariants.{AddTracker}
use Rattle.pool_model.specs.declared.bare.Bare.TheVariants as bare
use Rattle.pool_model.specs.Parts.{add_client}
use Rattle.pool_model.specs.Legal.{state_after}
use Rattle.trace_follow.specs.declared.rows.Asked.{Asked}
use Rattle.trace_follow.specs.declared.follower.Follower.{Follower}
use Rattle.trace_follow.specs.Showing.{Shows}
use Rattle.trace_follow.proofs.Told.{told_as}
use Rattle.trace_follow.proofs.Entered.{quiet_accepted}
use Rattle.trace_follow.proofs.Coming.{client_shows}
use Rattle.trace_follow.proofs.follower.Follower.add_client.Goals as goal

pub returns : goal.returns
returns c =
    quiet_accepted c.args.self.now c.begin_queue.new.self c.enter.new.self c.args.maker (AddTracker c.args.t c.args.parent c.args.limit None) (λ e is. told_as e (bare.AddTracker c.args.t c.args.parent c.args.limit None) is)
    c.may_add.result (λ o h stands sound. c.may_add.ensures (state_after o h) stands.shows)
    c.if-not-may_add.false c.requires c.enter.result c.enter.ensures.followed c.enter.ensures.counted c.enter.ensures.few
    (record { no_start = refl; no_call = refl; no_failure = λ p. refl })
    (λ maker. ap (λ (v : Follower). option_map (λ (x : Asked). x.reads) (get v.asked maker)) c.in_ok-begin_queue.ensures ∙ ap (λ (v : Follower). option_map (λ (x : Asked). x.reads) (get v.asked maker)) c.add_tracker.ensures.rest)
    (ap (λ (v : Follower). v.entries) c.in_ok-begin_queue.ensures ∙ ap (λ (v : Follower). v.entries) c.add_tracker.ensures.rest)
    (λ o h stands sound may.
    subst (λ (v : Follower). Shows v (add_client c.args.t c.args.parent c.args.limit (state_after o h))) (sym c.in_ok-begin_queue.ensures)
    (client_shows c.args.self.now c.add_tracker.new.self (state_after o h) c.args.t c.args.parent c.args.limit stands.shows c.add_tracker.ensures.rest
    (c.in_ok-add_tracker.ensures.shows (state_after o h).trackers stands.shows.trackers may.fresh)))
