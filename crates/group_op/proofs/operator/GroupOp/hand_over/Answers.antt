use Rattle.std.proofs.Common.{rules}
use Rattle.group_op.proofs.Inlets.{none_poured}
use Rattle.group_op.proofs.Poured.{besides, besides_at, left_at}
use Rattle.group_op.proofs.operator.GroupOp.hand_over.Goals as goal

pub pour-handed-requires-clause-none : goal.pour-handed-requires-clause-none
pour-handed-requires-clause-none g c = none_poured _ c.requires.may.to c.requires.other

pub returns-in-Some-clause-same : goal.returns-in-Some-clause-same
returns-in-Some-clause-same g c = let here = c.pour-handed.ensures.any.1.same in search (rules, here)

pub returns-in-Ok-clause-same : goal.returns-in-Ok-clause-same
returns-in-Ok-clause-same g c = let here = c.pour-handed.ensures.any.1.same in search (rules, here)

pub returns-in-Err-clause-same : goal.returns-in-Err-clause-same
returns-in-Err-clause-same g c = let here = c.pour-handed.ensures.any.1.same in search (rules, here)

pub returns-in-Some-clause-other : goal.returns-in-Some-clause-other
returns-in-Some-clause-other g c = left_at g.St.Store c.pour-handed.result.1.into.now _ c.pour-handed.result.1.beside.now _ (search rules) (search rules) _ _ _ c.pour-handed.ensures.any.1.leaves

pub returns-in-Ok-clause-other : goal.returns-in-Ok-clause-other
returns-in-Ok-clause-other g c = left_at g.St.Store c.pour-handed.result.1.into.now _ c.pour-handed.result.1.beside.now _ (search rules) (search rules) _ _ _ c.pour-handed.ensures.any.1.leaves

pub returns-in-Err-clause-other : goal.returns-in-Err-clause-other
returns-in-Err-clause-other g c = left_at g.St.Store c.pour-handed.result.1.into.now _ c.pour-handed.result.1.beside.now _ (search rules) (search rules) _ _ _ c.pour-handed.ensures.any.1.leaves

pub returns-in-Ok-clause-ok : goal.returns-in-Ok-clause-ok
returns-in-Ok-clause-ok g c = λ fed mine told holds held.
    let all = rw c.in-Ok.is at c.pour-handed.ensures.ok in
    besides_at g.St.Store c.pour-handed.result.1.into.now _ c.pour-handed.result.1.beside.now _ (search rules) (search rules) mine fed
    (besides c.args.self.now.shape fed mine _ _ c.pour-handed.result.1.stopped c.requires.op.shape holds.values c.requires.may.shape c.in-None.is (all fed holds told) held)
