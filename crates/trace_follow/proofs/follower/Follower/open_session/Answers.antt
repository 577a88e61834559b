use Rattle.trace_follow.proofs.Coming.{open_answers}
use Rattle.trace_follow.proofs.follower.Follower.open_session.Goals as goal

pub returns : goal.returns
returns c =
    open_answers c.args.self.now c.add_tracker.new.self c.seat.new.self c.enter.new.self c.args.maker c.args.t c.args.parent c.args.limit c.args.quota c.may_open.result (λ s shows. c.may_open.ensures s shows) c.requires
    c.enter.result c.if-not-may_open.false c.enter.ensures.followed c.add_tracker.ensures.rest c.in_ok-add_tracker.ensures.shows c.in_ok-seat.ensures.ok c.enter.ensures.counted c.enter.ensures.few
