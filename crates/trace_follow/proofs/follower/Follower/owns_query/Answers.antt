use Rattle.std.proofs.Common.{sym, ◌∙◌}
use Rattle.trace_follow.proofs.Owning.{query_exactly}
use Rattle.trace_follow.proofs.follower.Follower.owns_query.Goals as goal

pub returns-in-Some : goal.returns-in-Some
returns-in-Some c s shows = query_exactly c.args.self.now s shows c.args.maker c.in-Some.session (sym c.session.ensures ∙ c.in-Some.is) c.args.t
