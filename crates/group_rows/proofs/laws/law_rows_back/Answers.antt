use Rattle.group_rows.proofs.RowsBack.{emits, key_tells, reads_back}
use Rattle.group_rows.proofs.laws.law_rows_back.Goals as goal

pub returns-clause-back : goal.returns-clause-back
returns-clause-back c = reads_back

pub returns-clause-values : goal.returns-clause-values
returns-clause-values c = key_tells

pub returns-clause-emits : goal.returns-clause-emits
returns-clause-emits c = emits
