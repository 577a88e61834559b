use Rattle.trace_follow.proofs.Rooms.{takes_told}
use Rattle.trace_follow.proofs.follower.Follower.can_take.Goals as goal

pub returns-then-has_room_for : goal.returns-then-has_room_for
returns-then-has_room_for c = λ s shows.
    takes_told c.args.self.now s shows c.args.client c.args.blocks c.len_of.result c.has_room_for.result (c.has_room_for.ensures s shows) c.if-has_room_for.true c.len_of.ensures
