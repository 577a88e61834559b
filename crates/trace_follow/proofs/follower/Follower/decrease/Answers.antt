use Rattle.std.proofs.Common.{refl}
use Rattle.pool_model.specs.declared.event.Event.TheVariants.{Decrease}
use Rattle.pool_model.specs.declared.bare.Bare.TheVariants as bare
use Rattle.pool_model.specs.Legal.{state_after}
use Rattle.trace_follow.proofs.Told.{told_as}
use Rattle.trace_follow.proofs.Standing.{plain_refused}
use Rattle.trace_follow.proofs.Growing.{moved_accepted, trackers_changed, lost_reserved}
use Rattle.trace_follow.proofs.follower.Follower.decrease.Goals as goal

pub returns-then-not-may_decrease : goal.returns-then-not-may_decrease
returns-then-not-may_decrease c =
    plain_refused c.args.self.now c.args.self.now c.args.maker (Decrease c.args.t c.args.bytes) (λ e is. told_as e (bare.Decrease c.args.t c.args.bytes) is)
    c.may_decrease.result (λ o h stands sound. c.may_decrease.ensures (state_after o h) stands.shows sound) c.if-not-may_decrease.true

pub returns : goal.returns
returns c =
    moved_accepted c.args.self.now c.shrink.new.self c.enter.new.self c.args.maker (Decrease c.args.t c.args.bytes) (λ e is. told_as e (bare.Decrease c.args.t c.args.bytes) is)
    c.may_decrease.result (λ o h stands sound. c.may_decrease.ensures (state_after o h) stands.shows sound) c.shrink.ensures.rest
    c.if-not-may_decrease.false c.requires c.enter.result c.enter.ensures.followed c.enter.ensures.counted c.enter.ensures.few
    (record { no_start = refl; no_call = refl; no_failure = λ p. refl })
    (λ o h stands sound may. trackers_changed c.args.self.now c.shrink.new.self (state_after o h) _ stands.shows c.shrink.ensures.rest (c.in_ok-shrink.ensures.shows (state_after o h) c.args.maker stands.shows sound may.own (lost_reserved (state_after o h) c.args.t c.args.bytes may.spare)))
