use Rattle.std.proofs.Common.{ℕ, ◌+◌, ◌<◌, ◌≤◌, List, length, get_or, min, take, subst, arith}
use Rattle.std.proofs.lemmas.List.Elements.{All-more, All-nil, All-weaker}
use Rattle.std.proofs.lemmas.List.{take_all}
use Rattle.pool.specs.declared.ask.Ask.{Ask}
use Rattle.pool.specs.Admitting.{AreFew}
use Rattle.pool.proofs.rooms.most_of.Goals.{then-most-few, else-most-few}
use Rattle.pool.proofs.rooms.most_of.Goals as goal

abbrev no_ask : Ask
no_ask = record { limit = 0; quota = 0; least = 0; count = 0 }

more : (asks : List Ask) (i old new : ℕ) → i < length asks → AreFew old (take i asks) → old ≤ new → min (get_or asks i no_ask).count 240 ≤ new → AreFew new (take (i + 1) asks)
more asks i old new within few up here =
    All-more (λ (x : Ask). min x.count 240 ≤ new) asks i no_ask within
    (All-weaker (λ (x : Ask). min x.count 240 ≤ old) (λ (x : Ask). min x.count 240 ≤ new) (λ x is. omega (arith, is, up)) (take i asks) few) here

pub loop-ask-init : goal.loop-ask-init
loop-ask-init c = All-nil (λ (x : Ask). min x.count 240 ≤ 0)

pub loop-ask-preserved : goal.loop-ask-preserved
loop-ask-preserved c =
    let is = c.min-few.ensures in
    elim c.if-most-few.branch [
      | then-most-few w ↦
          let now = w.most-is in
          let less = w.if-most-few.true in
          more c.args.asks.now c.loop-ask.ask-index c.loop-ask.most c.if-most-few.most c.loop-ask-test.true c.loop-ask.invariant (omega (arith, now, less)) (omega (arith, now, is))
      | else-most-few w ↦
          let now = w.most-is in
          let enough = w.if-most-few.false in
          more c.args.asks.now c.loop-ask.ask-index c.loop-ask.most c.if-most-few.most c.loop-ask-test.true c.loop-ask.invariant (omega (arith, now)) (omega (arith, now, is, enough))
    ]

pub returns : goal.returns
returns c = subst (AreFew c.loop-ask.most) (take_all c.loop-ask.ask-index c.args.asks.now c.loop-ask-test.false) c.loop-ask.invariant
