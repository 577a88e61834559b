use Rattle.std.proofs.Common.{ℕ, refl, subst}
use Rattle.reservation_tree.specs.Change.{grow}
use Rattle.pool_model.specs.declared.event.Event.TheVariants.{IncreaseToFit}
use Rattle.pool_model.specs.declared.bare.Bare.TheVariants as bare
use Rattle.pool_model.specs.Sums.{charge_of}
use Rattle.pool_model.specs.Legal.{state_after}
use Rattle.trace_follow.proofs.Told.{told_as}
use Rattle.trace_follow.proofs.Standing.{plain_refused}
use Rattle.trace_follow.proofs.Growing.{fitting, moved_accepted, trackers_changed}
use Rattle.trace_follow.specs.Showing.{ShowsTrackers}
use Rattle.trace_follow.proofs.follower.Follower.increase_to_fit.Goals as goal

pub returns-then-not-may_increase : goal.returns-then-not-may_increase
returns-then-not-may_increase c =
    plain_refused c.args.self.now c.args.self.now c.args.maker (IncreaseToFit c.args.t c.args.bytes) (λ e is. told_as e (bare.IncreaseToFit c.args.t c.args.bytes) is)
    c.may_increase.result (λ o h stands sound. fitting (state_after o h) c.args.maker c.args.t c.args.bytes c.lacking-lacking.result c.may_increase.result (c.lacking-lacking.ensures (state_after o h) stands.shows) (c.may_increase.ensures (state_after o h) stands.shows sound)) c.if-not-may_increase.true

pub returns : goal.returns
returns c =
    moved_accepted c.args.self.now c.grow.new.self c.enter.new.self c.args.maker (IncreaseToFit c.args.t c.args.bytes) (λ e is. told_as e (bare.IncreaseToFit c.args.t c.args.bytes) is)
    c.may_increase.result (λ o h stands sound. fitting (state_after o h) c.args.maker c.args.t c.args.bytes c.lacking-lacking.result c.may_increase.result (c.lacking-lacking.ensures (state_after o h) stands.shows) (c.may_increase.ensures (state_after o h) stands.shows sound)) c.grow.ensures.rest
    c.if-not-may_increase.false c.requires c.enter.result c.enter.ensures.followed c.enter.ensures.counted c.enter.ensures.few
    (record { no_start = refl; no_call = refl; no_failure = λ p. refl })
    (λ o h stands sound may. trackers_changed c.args.self.now c.grow.new.self (state_after o h) _ stands.shows c.grow.ensures.rest
    (subst (λ (n : ℕ). ShowsTrackers c.grow.new.self.trackers c.grow.new.self.unders (grow (charge_of (state_after o h)) n c.args.t (state_after o h).trackers)) (c.lacking-lacking.ensures (state_after o h) stands.shows)
    (c.in_ok-grow.ensures.shows (state_after o h) c.args.maker stands.shows sound may.own)))
