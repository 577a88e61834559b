use Rattle.trace_follow.specs.Rows.{buffer_row}
use Rattle.trace_follow.proofs.Mirrored.{none_of}
use Rattle.trace_follow.proofs.follower.Follower.may_alloc.Goals as goal

pub returns-clause-judges : goal.returns-clause-judges
returns-clause-judges c = λ s shows. (
  λ is. record {
    fresh = none_of buffer_row s.buffers c.args.self.now.buffers shows.things.buffers c.args.f (c.is_new.ensures.0 c.if-not-is_new.false);
    own = (c.owns_client.ensures s shows).0 c.if-not-owns_client.false;
    takes = (c.can_take.ensures s shows).0 is;
  },
  λ may. (c.can_take.ensures s shows).1 may.takes,
)
