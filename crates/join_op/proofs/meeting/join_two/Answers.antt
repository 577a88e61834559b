use Rattle.std.proofs.Common.{Bool, [], ◌∷◌, sym, subst}
use Rattle.join_op.specs.Holding.{pairs_with}
use Rattle.join_op.specs.PairCalls.{HandsPairs}
use Rattle.join_op.proofs.HeldSame.{kept_left, kept_left_turned, kept_right, kept_right_turned}
use Rattle.join_op.proofs.meeting.join_two.Goals as goal

pub join_one-requires-clause-left : goal.join_one-requires-clause-left
join_one-requires-clause-left g c = kept_left_turned c.args.turned c.args.shape.now c.args.other.now c.if-turned.true c.requires.other

pub join_one-requires-clause-right : goal.join_one-requires-clause-right
join_one-requires-clause-right g c = kept_right_turned c.args.turned c.args.shape.now c.args.row.now c.if-turned.true c.requires.row

pub returns-then-turned : goal.returns-then-turned
returns-then-turned g c =
    subst (λ (b : Bool). HandsPairs g.St.Store g.E.Emit (pairs_with b c.args.shape.now (c.args.row.now.row.items ∷ []) (c.args.other.now.row.items ∷ [])) c.args.emit.now c.join_one.new.emit c.args.store.now c.join_one.new.store c.join_one.result)
    (sym c.if-turned.true) c.join_one.ensures

pub join_one-requires-2-clause-left : goal.join_one-requires-2-clause-left
join_one-requires-2-clause-left g c = kept_left c.args.turned c.args.shape.now c.args.row.now c.if-turned.false c.requires.row

pub join_one-requires-2-clause-right : goal.join_one-requires-2-clause-right
join_one-requires-2-clause-right g c = kept_right c.args.turned c.args.shape.now c.args.other.now c.if-turned.false c.requires.other

pub returns : goal.returns
returns g c =
    subst (λ (b : Bool). HandsPairs g.St.Store g.E.Emit (pairs_with b c.args.shape.now (c.args.row.now.row.items ∷ []) (c.args.other.now.row.items ∷ [])) c.args.emit.now c.join_one-2.new.emit c.args.store.now c.join_one-2.new.store c.join_one-2.result)
    (sym c.if-turned.false) c.join_one-2.ensures
