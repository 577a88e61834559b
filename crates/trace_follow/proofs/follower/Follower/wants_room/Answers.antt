use Rattle.std.proofs.Common.{refl}
use Rattle.trace_follow.proofs.follower.Follower.wants_room.Goals as goal

pub returns : goal.returns
returns c s shows = record { own = (c.owns_client.ensures s shows).0 c.if-not-owns_client.false; of = refl; enabled = c.has_room.ensures s shows }
