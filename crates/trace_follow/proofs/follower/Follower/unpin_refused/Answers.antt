use Rattle.std.proofs.Common.{refl}
use Rattle.pool_model.specs.declared.event.Event.TheVariants.{UnpinRefused}
use Rattle.pool_model.specs.declared.bare.Bare.TheVariants as bare
use Rattle.pool_model.specs.Legal.{state_after}
use Rattle.trace_follow.proofs.Told.{told_as}
use Rattle.trace_follow.proofs.Entered.{quiet_accepted}
use Rattle.trace_follow.proofs.follower.Follower.unpin_refused.Goals as goal

pub returns : goal.returns
returns c =
    quiet_accepted c.args.self.now c.args.self.now c.enter.new.self c.args.maker (UnpinRefused c.args.p) (λ e is. told_as e (bare.UnpinRefused c.args.p) is)
    c.may_refuse_unpin.result (λ o h stands sound. c.may_refuse_unpin.ensures (state_after o h) stands.shows)
    c.if-not-may_refuse_unpin.false c.requires c.enter.result c.enter.ensures.followed c.enter.ensures.counted c.enter.ensures.few
    (record { no_start = refl; no_call = refl; no_failure = λ p. refl }) (λ maker. refl) refl (λ o h stands sound may. stands.shows)
