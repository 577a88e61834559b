use Rattle.std.proofs.Common.{sym, ◌∙◌}
use Rattle.trace_follow.proofs.Coming.{add_exactly}
use Rattle.trace_follow.proofs.follower.Follower.may_add.Goals as goal

pub returns-in-None : goal.returns-in-None
returns-in-None c s shows = add_exactly c.args.self.now s c.args.maker c.args.t c.args.parent c.owns_query.result shows (sym c.tracker.ensures ∙ c.in-None.is) (c.owns_query.ensures s shows)
