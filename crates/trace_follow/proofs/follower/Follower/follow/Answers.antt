use Rattle.std.proofs.Common.{subst}
use Rattle.pool_model.specs.declared.skeleton.Skeleton.{Skeleton}
use Rattle.trace_follow.specs.Judging.{Answers}
use Rattle.trace_follow.proofs.Makers.{as_session, as_writer}
use Rattle.trace_follow.proofs.follower.Follower.follow.Goals as goal

pub returns-then-not-k-clause-follows : goal.returns-then-not-k-clause-follows
returns-then-not-k-clause-follows c =
    (subst (λ (k : Skeleton). Answers c.args.self.now c.follow_session.new.self k c.follow_session.result) (as_session c.args.k.now c.if-k-lt-MAX_SESSIONS.true c.if-not-k.true) c.follow_session.ensures).follows

pub returns-then-k-2-clause-follows : goal.returns-then-k-2-clause-follows
returns-then-k-2-clause-follows c =
    (subst (λ (k : Skeleton). Answers c.args.self.now c.follow_writer.new.self k c.follow_writer.result) (as_writer c.args.k.now c.if-k-ge-FIRST_WRITER.true c.if-k.true) c.follow_writer.ensures).follows
