use Rattle.std.proofs.Common.{sym, ◌∙◌}
use Rattle.trace_follow.proofs.Reserving.{then_ok}
use Rattle.trace_follow.proofs.Levels.{query_fallen, client_fallen}
use Rattle.trace_follow.proofs.follower.Follower.shrink.Goals as goal

pub returns-then-parent-eq0-clause-shows : goal.returns-then-parent-eq0-clause-shows
returns-then-parent-eq0-clause-shows c =
    then_ok c.lower-then-parent-eq0.result c.lower-then-parent-eq0.ensures.shows (λ second s maker shows sound own few.
    query_fallen s sound maker c.args.t c.args.bytes own c.args.self.now c.lower.new.self c.lower-then-parent-eq0.new.self
    shows.trackers (sym (c.parent-parent.ensures s shows) ∙ c.if-parent-eq0.true) few c.in_ok-lower.ensures.shows second)

pub returns-clause-shows : goal.returns-clause-shows
returns-clause-shows c =
    then_ok c.lower-4.result c.lower-4.ensures.shows (λ third s maker shows sound own few.
    client_fallen s sound maker c.args.t c.args.bytes own c.args.self.now c.lower-2.new.self c.lower-3.new.self c.lower-4.new.self c.parent-parent.result
    shows.trackers (c.parent-parent.ensures s shows) c.if-parent-eq0.false few c.in_ok-lower-2.ensures.shows c.in_ok-lower-3.ensures.shows third)
