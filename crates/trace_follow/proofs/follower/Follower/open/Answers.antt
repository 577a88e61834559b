use Rattle.trace_follow.proofs.Beginning.{begun}
use Rattle.trace_follow.proofs.follower.Follower.open.Goals as goal

pub returns : goal.returns
returns c = begun c.beginning.result c.args.opened.now c.beginning.ensures
