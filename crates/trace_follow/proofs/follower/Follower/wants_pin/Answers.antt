use Rattle.std.proofs.Common.{sym, ◌∙◌}
use Rattle.pool_model.specs.Legal.{state_after}
use Rattle.trace_follow.proofs.Refusing.{pin_wanted}
use Rattle.trace_follow.proofs.follower.Follower.wants_pin.Goals as goal

pub returns : goal.returns
returns c o h stands sound =
    pin_wanted c.args.self.now o h stands sound c.args.maker c.args.p c.in_ok-row.row (sym c.in_ok-row.was ∙ c.own_page.ensures) c.can_be_pinned-enabled.result (c.can_be_pinned-enabled.ensures (state_after o h) stands.shows)
