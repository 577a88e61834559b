use Rattle.trace_follow.proofs.Asking.{ask_entered}
use Rattle.trace_follow.proofs.follower.Follower.ask.Goals as goal

pub returns : goal.returns
returns c =
    ask_entered c.args.self.now c.call.new.self c.enter.new.self c.args.maker c.enter.result c.requires c.enter.ensures.followed c.in_ok-call.ensures c.enter.ensures.counted c.enter.ensures.few
