use Rattle.std.proofs.Common.{ap, sym, ◌∙◌}
use Rattle.trace_follow.specs.declared.follower.Follower.{Follower}
use Rattle.trace_follow.specs.Noting.{misreading}
use Rattle.trace_follow.proofs.Reserving.{then_ok}
use Rattle.trace_follow.proofs.Noting.{changes_none, changes_some}
use Rattle.trace_follow.proofs.follower.Follower.note_read.Goals as goal

pub returns-in_default-clause-asked : goal.returns-in_default-clause-asked
returns-in_default-clause-asked c =
    changes_none (misreading c.args.p c.args.self.now.entries) c.args.self.now.asked c.take_asked.new.self.asked c.args.maker (sym c.in_default.is ∙ c.take_asked.ensures.since) (ap (λ (v : Follower). v.asked) c.take_asked.ensures.gone)

pub returns-clause-asked : goal.returns-clause-asked
returns-clause-asked c =
    then_ok c.put_asked.result c.put_asked.ensures.ok (λ put.
    changes_some (misreading c.args.p c.args.self.now.entries) c.args.self.now.asked c.take_asked.new.self.asked c.put_asked.new.self.asked c.args.maker c.in-Some.since c.note_read.new.self
    (sym c.in-Some.is ∙ c.take_asked.ensures.since) (ap (λ (v : Follower). v.asked) c.take_asked.ensures.gone) c.in_ok-note_read.ensures (ap (λ (v : Follower). v.asked) put))
