use Rattle.std.proofs.Common.{sym, ◌∙◌}
use Rattle.pool_model.specs.Legal.{state_after}
use Rattle.trace_follow.proofs.Refusing.{buffer_wanted}
use Rattle.trace_follow.proofs.follower.Follower.wants_buffer.Goals as goal

pub returns : goal.returns
returns c o h stands sound =
    buffer_wanted c.args.self.now (state_after o h) stands.shows sound c.args.maker c.args.f c.args.to c.len_of.result c.in_ok-row.row (sym c.buffer.ensures ∙ c.in_ok-row.was)
    ((c.owns_client.ensures (state_after o h) stands.shows).0 c.if-not-owns_client.false) c.len_of.ensures c.wants_room.result (c.wants_room.ensures (state_after o h) stands.shows)
