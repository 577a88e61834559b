use Rattle.trace_follow.proofs.Growing.{decrease_exactly}
use Rattle.trace_follow.proofs.follower.Follower.may_decrease.Goals as goal

pub returns-then-owns_tracker : goal.returns-then-owns_tracker
returns-then-owns_tracker c s shows sound =
    decrease_exactly s sound c.args.maker c.args.t c.args.bytes c.can_lose.result ((c.owns_tracker.ensures s shows).0 c.if-owns_tracker.true) (c.can_lose.ensures s shows)
