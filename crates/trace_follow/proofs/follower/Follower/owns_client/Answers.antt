use Rattle.std.proofs.Common.{sym, ◌∙◌}
use Rattle.trace_follow.proofs.Owning.{client_exactly}
use Rattle.trace_follow.proofs.follower.Follower.owns_client.Goals as goal

pub returns-in-Some-parent : goal.returns-in-Some-parent
returns-in-Some-parent c s shows =
    client_exactly c.args.self.now s shows c.args.maker c.in-Some.session (sym c.session.ensures ∙ c.in-Some.is)
    c.args.c c.in-Some-tracker.row (sym c.tracker.ensures ∙ c.in-Some-tracker.is) c.in-Some-parent.parent c.in-Some-parent.is
