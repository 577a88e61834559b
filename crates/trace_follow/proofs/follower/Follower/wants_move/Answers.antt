use Rattle.pool_model.specs.Legal.{state_after}
use Rattle.trace_follow.proofs.Refusing.{move_wanted}
use Rattle.trace_follow.proofs.follower.Follower.wants_move.Goals as goal

pub returns : goal.returns
returns c o h stands sound =
    move_wanted (state_after o h) sound c.args.maker c.args.from c.args.to c.args.bytes ((c.owns_tracker.ensures (state_after o h) stands.shows).0 c.if-not-owns_tracker.false) c.wants_room.result (c.wants_room.ensures (state_after o h) stands.shows)
