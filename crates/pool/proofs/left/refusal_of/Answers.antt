use Rattle.std.proofs.Common.{ℕ, ◌-◌, ◌+◌, Some, sym, ap, ◌∙◌, arith}
use Rattle.reservation_tree.specs.declared.errors.PoolErr.TheVariants.{NoReservation}
use Rattle.pool.proofs.Asked.{root, goes_on}
use Rattle.pool.proofs.left.refusal_of.Goals as goal

pub returns-then-left-ask : goal.returns-then-left-ask
returns-then-left-ask c =
    ap (λ (t : ℕ). Some (NoReservation t c.args.ask.now.least c.loop-i.left.bytes)) c.of-then-left-ask.ensures
    ∙ sym (c.loop-i.invariant ∙ root c.args.ask.now c.loop-i.left (c.args.ask.now.count - c.loop-i._i) (omega arith) (omega arith) c.if-ask.false c.if-left-ask.true)

pub loop-i-preserved : goal.loop-i-preserved
loop-i-preserved c =
    c.loop-i.invariant
    ∙ goes_on c.args.ask.now c.loop-i.left (c.args.ask.now.count - c.loop-i._i) (c.args.ask.now.count - (c.loop-i._i + 1)) (omega arith) (omega arith) c.if-ask.false c.if-left-ask.false
