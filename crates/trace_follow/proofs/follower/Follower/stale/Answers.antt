use Rattle.std.proofs.Common.{is_some, ap, refl}
use Rattle.trace_follow.proofs.Noting.{stale_is}
use Rattle.trace_follow.proofs.follower.Follower.stale.Goals as goal

pub returns-then-differs-clause-judges : goal.returns-then-differs-clause-judges
returns-then-differs-clause-judges c s shows = (
  λ is. stale_is c.args.self.now s shows c.args.maker c.args.wanted c.args.found c.in_ok-row.row c.in_ok-row.ensures.row ((c.loading.ensures.judges s shows).0 (ap is_some c.in_ok-row.was)) c.if-row-wanted.true c.if-wanted-row.true (c.differs.ensures.0 c.if-differs.true),
  λ may. refl,
)
