use Rattle.trace_follow.proofs.Growing.{increase_exactly}
use Rattle.trace_follow.proofs.follower.Follower.may_increase.Goals as goal

pub returns-then-owns_tracker : goal.returns-then-owns_tracker
returns-then-owns_tracker c s shows sound =
    increase_exactly s sound c.args.maker c.args.t c.args.bytes c.can_grow.result ((c.owns_tracker.ensures s shows).0 c.if-owns_tracker.true) (c.can_grow.ensures s shows)
