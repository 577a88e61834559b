use Rattle.std.proofs.Common.{subst}
use Rattle.pool.specs.Asking.{answer_of}
use Rattle.tests_sessions.specs.Ending.{AllCanEnd, CanEnd}
use Rattle.tests_sessions.proofs.Came.{each_seen}
use Rattle.tests_sessions.proofs.tests.asks.end_answered.Goals as goal

pub end_all-requires : goal.end_all-requires
end_all-requires g c = record {
  end = each_seen (CanEnd g.T.Opened.opening g.T.Opened.outset.told c.args.pass.now.table) (λ s. s.seat) c.in-Ok.sessions.items
      (subst (λ r. AllCanEnd g.T.Opened.opening g.T.Opened.outset.told c.args.pass.now.table (answer_of (λ v. v.items) (λ s. s.seat) r)) c.in-Ok.is c.requires.end);
}
