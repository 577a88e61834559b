use Rattle.std.proofs.Common.{ap, sym, ◌∙◌}
use Rattle.trace_follow.specs.declared.follower.Follower.{Follower}
use Rattle.trace_follow.proofs.Reserving.{then_ok}
use Rattle.trace_follow.proofs.Closing.{forgets_none, forgets_some}
use Rattle.trace_follow.proofs.follower.Follower.forget_client.Goals as goal

pub returns-in_default-clause-asked : goal.returns-in_default-clause-asked
returns-in_default-clause-asked c =
    forgets_none c.args.self.now.asked c.take_asked.new.self.asked c.args.maker c.args.c (sym c.in_default.is ∙ c.take_asked.ensures.since) (ap (λ (v : Follower). v.asked) c.take_asked.ensures.gone)

pub returns-clause-asked : goal.returns-clause-asked
returns-clause-asked c =
    then_ok c.put_asked.result c.put_asked.ensures.ok (λ put.
    forgets_some c.args.self.now.asked c.take_asked.new.self.asked c.put_asked.new.self.asked c.args.maker c.args.c c.in-Some.since c.forget.new.self
    (sym c.in-Some.is ∙ c.take_asked.ensures.since) (ap (λ (v : Follower). v.asked) c.take_asked.ensures.gone) c.forget.ensures (ap (λ (v : Follower). v.asked) put))
