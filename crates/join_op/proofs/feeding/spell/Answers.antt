use Rattle.std.proofs.Common.{Ok, Err, OnOk, Result, arith}
use Rattle.join_op.proofs.OneRow.{body_fits, row_is_one}
use Rattle.join_op.proofs.feeding.spell.Goals as goal

any_ok : {E P : Type 0} (result : Result Unit E) → P → OnOk result P
any_ok (Ok done) p = p
any_ok (Err e) p = tt

pub returns-clause-one : goal.returns-clause-one
returns-clause-one c = any_ok c.key_bytes.result (row_is_one c.args.row.now c.requires.some (let short = c.requires.short in omega (arith, short)))

pub returns-clause-is_row : goal.returns-clause-is_row
returns-clause-is_row c =
    any_ok c.key_bytes.result (record { some = c.requires.some; values = c.in_ok-encode_row.ensures.values; fits = body_fits c.args.row.now (let short = c.requires.short in omega (arith, short)) })
