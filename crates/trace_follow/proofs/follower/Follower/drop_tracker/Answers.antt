use Rattle.trace_follow.proofs.Closing.{tracker_gone}
use Rattle.trace_follow.proofs.follower.Follower.drop_tracker.Goals as goal

pub returns-clause-shows : goal.returns-clause-shows
returns-clause-shows c s maker shows sound may =
    tracker_gone c.args.self.now c.uncount_under.new.self c.drop_rows.new.self s sound maker c.args.t c.parent-parent.result shows may (c.parent-parent.ensures s shows) c.in_ok-uncount_under.ensures.ok c.drop_rows.ensures
