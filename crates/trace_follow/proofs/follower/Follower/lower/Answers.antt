use Rattle.std.proofs.Common.{sym, ◌∙◌}
use Rattle.trace_follow.proofs.Reserving.{then_ok, fell_root, fell_under}
use Rattle.trace_follow.proofs.follower.Follower.lower.Goals as goal

pub returns-in-Some-parent-clause-shows : goal.returns-in-Some-parent-clause-shows
returns-in-Some-parent-clause-shows c =
    then_ok c.take_under.result c.take_under.ensures.ok (λ second ts shows live few.
    fell_under c.args.self.now c.take_reserved.new.self c.take_under.new.self ts shows c.args.t c.args.bytes c.in-Some.row
    (sym c.tracker.ensures ∙ c.in-Some.is) few c.in-Some-parent.parent c.in_ok-take_reserved.ensures.ok c.in-Some-parent.is second)

pub returns-in-None-clause-shows : goal.returns-in-None-clause-shows
returns-in-None-clause-shows c ts shows live few =
    fell_root c.args.self.now c.take_reserved.new.self c.take_reserved.new.self ts shows c.args.t c.args.bytes c.in-Some.row
    (sym c.tracker.ensures ∙ c.in-Some.is) few c.in_ok-take_reserved.ensures.ok c.in-None.is
