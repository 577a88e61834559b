use Rattle.std.proofs.Common.{length, ap, arith}
use Rattle.partition_stack.proofs.Results.{on_ok}
use Rattle.group_op.proofs.Advancing.{ok_both}
use Rattle.group_op.proofs.OwnBytes.{own_long}
use Rattle.group_op.proofs.Taken.{spells_own}
use Rattle.group_op.proofs.own_row.spell.Goals as goal

pub returns-clause-short : goal.returns-clause-short
returns-clause-short c =
    let few = own_long c.args.shape.now c.args.row.now c.requires.shape in
    on_ok c.spell_own.result (λ row. let same = ap length row in omega (arith, few, same)) c.spell_own.ensures.row

pub returns-clause-spells : goal.returns-clause-spells
returns-clause-spells c =
    let few = own_long c.args.shape.now c.args.row.now c.requires.shape in
    ok_both c.spell_own.result (λ row says. let same = ap length row in spells_own c.args.shape.now c.args.row.now _ c.law_values.ensures says (omega (arith, few, same)))
    c.spell_own.ensures.row c.spell_own.ensures.says
