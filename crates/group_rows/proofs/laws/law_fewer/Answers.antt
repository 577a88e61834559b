use Rattle.group_rows.specs.Partials.{combine, key_of}
use Rattle.group_rows.proofs.Each.{keys_each}
use Rattle.group_rows.proofs.Merging.{combines}
use Rattle.group_rows.proofs.Tables.{no_more}
use Rattle.group_rows.proofs.laws.law_fewer.Goals as goal

pub returns-clause-keys : goal.returns-clause-keys
returns-clause-keys c = λ order is_order grouping partials. keys_each key_of (combine grouping) (combines grouping) order is_order partials

pub returns-clause-no_more : goal.returns-clause-no_more
returns-clause-no_more c = no_more
