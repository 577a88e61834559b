use Rattle.std.proofs.Common.{ap}
use Rattle.pool.specs.Asking.{answer_of}
use Rattle.tests_sessions.proofs.Bare.{two_bare}
use Rattle.tests_sessions.proofs.tests.writers.seated_two.Goals as goal

pub returns-clause-bare : goal.returns-clause-bare
returns-clause-bare g c =
    two_bare g.T.Opened.opening g.T.Opened.outset.told c.sessions.new.pass _ (answer_of (λ v. v.items) (λ s. s.seat)) (λ s. s.seat) c.in-Ok.answers.items c.pop.new.self.items c.pop.result c.unwrap.result
    c.in-Ok-unwrap.sessions.items c.pop-2.new.self.items c.pop-3.new.self.items c.pop-2.result c.pop-3.result c.unwrap-one.result c.unwrap-two.result
    c.pop.ensures.items c.unwrap.ensures (ap (answer_of (λ v. v.items) (λ s. s.seat)) c.in-Ok-unwrap.is) c.in-Ok.ensures.ok.sessions
    c.pop-2.ensures.items c.unwrap-two.ensures c.pop-3.ensures.items c.unwrap-one.ensures
