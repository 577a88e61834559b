use Rattle.trace_follow.proofs.Closing.{close_exactly}
use Rattle.trace_follow.proofs.follower.Follower.may_close.Goals as goal

pub returns : goal.returns
returns c s shows = close_exactly s c.args.maker c.args.t c.has_nothing.result ((c.owns_tracker.ensures s shows).0 c.if-not-owns_tracker.false) (c.has_nothing.ensures s shows)
