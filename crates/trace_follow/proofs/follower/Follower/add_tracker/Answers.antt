use Rattle.trace_follow.proofs.Reserving.{then_ok}
use Rattle.trace_follow.proofs.Coming.{child_came}
use Rattle.trace_follow.proofs.follower.Follower.add_tracker.Goals as goal

pub returns-clause-shows : goal.returns-clause-shows
returns-clause-shows c =
    then_ok c.count_under.result c.count_under.ensures.ok (λ second ts shows fresh.
    child_came c.args.self.now c.put_child.new.self c.count_under.new.self ts c.args.t c.args.parent c.args.limit c.depth-depth.result shows fresh (c.depth-depth.ensures ts shows) c.in_ok-put_child.ensures.ok second)
