use Rattle.std.proofs.Common.{sym, ◌∙◌}
use Rattle.trace_follow.proofs.Reserving.{then_ok, rose_root, rose_under}
use Rattle.trace_follow.proofs.follower.Follower.raise.Goals as goal

pub returns-in-Some-parent-clause-shows : goal.returns-in-Some-parent-clause-shows
returns-in-Some-parent-clause-shows c =
    then_ok c.add_under.result c.add_under.ensures.ok (λ second ts shows live.
    rose_under c.args.self.now c.add_reserved.new.self c.add_under.new.self ts shows c.args.t c.args.bytes c.in-Some.row
    (sym c.tracker.ensures ∙ c.in-Some.is) c.in-Some-parent.parent c.in_ok-add_reserved.ensures.ok c.in-Some-parent.is second)

pub returns-in-None-clause-shows : goal.returns-in-None-clause-shows
returns-in-None-clause-shows c ts shows live =
    rose_root c.args.self.now c.add_reserved.new.self c.add_reserved.new.self ts shows c.args.t c.args.bytes c.in-Some.row
    (sym c.tracker.ensures ∙ c.in-Some.is) c.in_ok-add_reserved.ensures.ok c.in-None.is
