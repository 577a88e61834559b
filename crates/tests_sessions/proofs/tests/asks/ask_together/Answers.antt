use Rattle.std.proofs.Common.{◌≡◌, length, ap, ◌∙◌, arith}
use Rattle.std.specs.Option.{option_to_list}
use Rattle.pool.specs.Seats.{live_in}
use Rattle.pool.specs.Asking.{answer_of}
use Rattle.tests_sessions.proofs.Came.{all_live, less_live, next_can, none_live}
use Rattle.tests_sessions.proofs.tests.asks.ask_together.Goals as goal

pub loop-i-init : goal.loop-i-init
loop-i-init g c =
    let len = c.len.ensures in
    let live = all_live g.T.Opened.opening g.T.Opened.outset.told c.args.pool.now c.deref.result.now c.args.pass.now c.sessions.new.pass (answer_of (λ v. v.items) (λ s. s.seat)) c.in-Ok.answers.items c.in-Ok.ensures.ok c.requires.table in
    (omega (arith, len), live.0, live.1, live.2, c.in-Ok.ensures.ok.writers)

pub end_answered-requires : goal.end_answered-requires
end_answered-requires g c = record {
  end = (next_can g.T.Opened.opening g.T.Opened.outset.told c.args.pool.now c.loop-i.pass.table (answer_of (λ v. v.items) (λ s. s.seat)) c.loop-i.answers.items c.pop.new.self.items c.pop.result c.unwrap-answer.result
      c.pop.ensures.items c.unwrap-answer.ensures c.loop-i.invariant.1 c.loop-i.invariant.2).1;
}

pub loop-i-preserved : goal.loop-i-preserved
loop-i-preserved g c =
    let sum = c.loop-i.invariant.0 in
    let cases = c.pop.ensures.len in
    let one : length (option_to_list c.pop.result) ≡ 1 = ap (λ o. length (option_to_list o)) c.unwrap-answer.ensures in
    let left = next_can g.T.Opened.opening g.T.Opened.outset.told c.args.pool.now c.loop-i.pass.table (answer_of (λ v. v.items) (λ s. s.seat)) c.loop-i.answers.items c.pop.new.self.items c.pop.result c.unwrap-answer.result
    c.pop.ensures.items c.unwrap-answer.ensures c.loop-i.invariant.1 c.loop-i.invariant.2 in (
      omega (arith, sum, cases, one),
      c.end_answered.ensures.table ∙ c.loop-i.invariant.1,
      left.0,
      less_live (answer_of (λ v. v.items) (λ s. s.seat)) c.loop-i.answers.items c.pop.new.self.items c.pop.result c.unwrap-answer.result (live_in c.args.pass.now.knows.seen) (live_in c.loop-i.pass.knows.seen) (live_in c.end_answered.new.pass.knows.seen)
          c.pop.ensures.items c.unwrap-answer.ensures c.loop-i.invariant.3 c.end_answered.ensures.count,
      c.end_answered.ensures.writers ∙ c.loop-i.invariant.4,
    )

pub returns-clause-count : goal.returns-clause-count
returns-clause-count g c =
    let sum = c.loop-i.invariant.0 in
    let done = c.loop-i-test.false in
    record {
      sessions = none_live (answer_of (λ v. v.items) (λ s. s.seat)) c.loop-i.answers.items _ (live_in c.args.pass.now.knows.seen) (live_in c.loop-i.pass.knows.seen) c.loop-i.answers.ok.0 (omega (arith, sum, done)) c.loop-i.invariant.3;
      writers = c.loop-i.invariant.4;
    }
