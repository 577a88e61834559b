use Rattle.std.proofs.Common.{◌≡◌, length, ap, ◌∙◌, arith}
use Rattle.std.specs.Option.{option_to_list}
use Rattle.tests_sessions.specs.Ending.{CanEnd}
use Rattle.tests_sessions.proofs.Came.{last_of}
use Rattle.tests_sessions.proofs.tests.asks.end_all.Goals as goal

pub loop-i-preserved : goal.loop-i-preserved
loop-i-preserved g c =
    let kept = c.loop-i.invariant in
    let len = kept.0 in
    let cases = c.pop.ensures.len in
    let one : length (option_to_list c.pop.result) ≡ 1 = ap (λ o. length (option_to_list o)) c.unwrap-session.ensures in
    let live = kept.3 in
    let gone = c.end.ensures.count in
    let left = last_of (λ s. CanEnd g.T.Opened.opening g.T.Opened.outset.told c.args.pass.now.table s.seat) c.loop-i.sessions.items c.pop.new.self.items c.pop.result c.unwrap-session.result c.pop.ensures.items c.unwrap-session.ensures kept.2 in (
      omega (arith, len, cases, one),
      c.end.ensures.table ∙ kept.1,
      left.0,
      omega (arith, live, gone),
      c.end.ensures.writers ∙ kept.4,
    )
