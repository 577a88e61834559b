use Rattle.group_rows.specs.Partials.{combine, key_of}
use Rattle.group_rows.proofs.Merged.{in_parts}
use Rattle.group_rows.proofs.Merging.{combines}
use Rattle.group_rows.proofs.Tables.{any_order}
use Rattle.group_rows.proofs.laws.law_any_parts.Goals as goal

pub returns-clause-order : goal.returns-clause-order
returns-clause-order c = any_order

pub returns-clause-parts : goal.returns-clause-parts
returns-clause-parts c = λ order is_order grouping xs ys. in_parts key_of (combine grouping) (combines grouping) order is_order xs ys
