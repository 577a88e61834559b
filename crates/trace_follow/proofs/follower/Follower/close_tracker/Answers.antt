use Rattle.std.proofs.Common.{◌≡◌, true, false, refl, ap, sym, ◌∙◌, option_map}
use Rattle.std.specs.FinMap.{get}
use Rattle.pool_model.specs.declared.event.Event.TheVariants.{CloseTracker}
use Rattle.pool_model.specs.declared.bare.Bare.TheVariants as bare
use Rattle.pool_model.specs.Legal.{state_after}
use Rattle.trace_follow.specs.declared.rows.Asked.{Asked}
use Rattle.trace_follow.specs.declared.follower.Follower.{Follower}
use Rattle.trace_follow.proofs.Told.{told_as}
use Rattle.trace_follow.proofs.Entered.{quiet_accepted}
use Rattle.trace_follow.proofs.Closing.{forgets_kept, query_closed, client_closed}
use Rattle.trace_follow.proofs.follower.Follower.close_tracker.Goals as goal

pub returns-then-is_query : goal.returns-then-is_query
returns-then-is_query c =
    quiet_accepted c.args.self.now c.drop_session.new.self c.enter.new.self c.args.maker (CloseTracker c.args.t) (λ e is. told_as e (bare.CloseTracker c.args.t) is)
    c.may_close.result (λ o h stands sound. c.may_close.ensures (state_after o h) stands.shows)
    c.if-not-may_close.false c.requires c.enter.result c.enter.ensures.followed c.enter.ensures.counted c.enter.ensures.few
    (record { no_start = refl; no_call = refl; no_failure = λ p. refl })
    (λ maker.
    ap (λ (v : Follower). option_map (λ (x : Asked). x.reads) (get v.asked maker)) c.drop_session.ensures ∙ ap (λ (v : Follower). option_map (λ (x : Asked). x.reads) (get v.asked maker)) c.drop_things.ensures
    ∙ ap (λ (v : Follower). option_map (λ (x : Asked). x.reads) (get v.asked maker)) c.drop_tracker.ensures.rest)
    (ap (λ (v : Follower). v.entries) c.drop_session.ensures ∙ ap (λ (v : Follower). v.entries) c.drop_things.ensures ∙ ap (λ (v : Follower). v.entries) c.drop_tracker.ensures.rest)
    (λ o h stands sound may.
    query_closed c.args.self.now c.drop_tracker.new.self c.drop_things.new.self (state_after o h) c.args.maker c.args.t stands.shows may c.drop_tracker.ensures.rest
    (c.in_ok-drop_tracker.ensures.shows (state_after o h) c.args.maker stands.shows sound may) c.drop_things.ensures
    c.drop_session.new.self ((c.owns_query-is_query.ensures (state_after o h) stands.shows).0 c.if-is_query.true) c.drop_session.ensures)

pub returns : goal.returns
returns c =
    quiet_accepted c.args.self.now c.forget_client.new.self c.enter-2.new.self c.args.maker (CloseTracker c.args.t) (λ e is. told_as e (bare.CloseTracker c.args.t) is)
    c.may_close.result (λ o h stands sound. c.may_close.ensures (state_after o h) stands.shows)
    c.if-not-may_close.false c.requires c.enter-2.result c.enter-2.ensures.followed c.enter-2.ensures.counted c.enter-2.ensures.few
    (record { no_start = refl; no_call = refl; no_failure = λ p. refl })
    (λ maker.
    forgets_kept c.drop_things.new.self.asked c.forget_client.new.self.asked c.args.maker c.args.t c.in_ok-forget_client.ensures.asked maker
    ∙ ap (λ (v : Follower). option_map (λ (x : Asked). x.reads) (get v.asked maker)) c.drop_things.ensures
    ∙ ap (λ (v : Follower). option_map (λ (x : Asked). x.reads) (get v.asked maker)) c.drop_tracker.ensures.rest)
    (ap (λ (v : Follower). v.entries) c.forget_client.ensures.rest ∙ ap (λ (v : Follower). v.entries) c.drop_things.ensures ∙ ap (λ (v : Follower). v.entries) c.drop_tracker.ensures.rest)
    (λ o h stands sound may.
    client_closed c.args.self.now c.drop_tracker.new.self c.drop_things.new.self (state_after o h) c.args.maker c.args.t stands.shows may c.drop_tracker.ensures.rest
    (c.in_ok-drop_tracker.ensures.shows (state_after o h) c.args.maker stands.shows sound may) c.drop_things.ensures
    c.forget_client.new.self
    (λ own. let is : c.owns_query-is_query.result ≡ true = (c.owns_query-is_query.ensures (state_after o h) stands.shows).1 own in let no : false ≡ true = sym c.if-is_query.false ∙ is in cc)
    c.in_ok-forget_client.ensures.asked c.forget_client.ensures.rest)
