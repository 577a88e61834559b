use Rattle.std.proofs.Common.{refl}
use Rattle.pool_model.specs.declared.event.Event.TheVariants.{Refused}
use Rattle.pool_model.specs.declared.bare.Bare.TheVariants as bare
use Rattle.trace_follow.proofs.Told.{told_as}
use Rattle.trace_follow.proofs.Standing.{plain_refused}
use Rattle.trace_follow.proofs.Entered.{quiet_accepted}
use Rattle.trace_follow.proofs.follower.Follower.refused.Goals as goal

pub returns-then-not-may_refuse : goal.returns-then-not-may_refuse
returns-then-not-may_refuse c =
    plain_refused c.args.self.now c.args.self.now c.args.maker (Refused c.args.call.now c.args.entry) (λ e is. told_as e (bare.Refused c.args.call.now c.args.entry) is)
    c.may_refuse.result (λ o h stands sound. c.may_refuse.ensures o h stands sound) c.if-not-may_refuse.true

pub returns : goal.returns
returns c =
    quiet_accepted c.args.self.now c.args.self.now c.enter.new.self c.args.maker (Refused c.args.call.now c.args.entry) (λ e is. told_as e (bare.Refused c.args.call.now c.args.entry) is)
    c.may_refuse.result (λ o h stands sound. c.may_refuse.ensures o h stands sound)
    c.if-not-may_refuse.false c.requires c.enter.result c.enter.ensures.followed c.enter.ensures.counted c.enter.ensures.few
    (record { no_start = refl; no_call = refl; no_failure = λ p. refl }) (λ maker. refl) refl (λ o h stands sound may. stands.shows)
