use Rattle.group_rows.proofs.InOrder.{first_suffice, ordered_are_groups, puts_in_order}
use Rattle.group_rows.proofs.laws.law_ordered.Goals as goal

pub returns-clause-put : goal.returns-clause-put
returns-clause-put c = λ order is_order grouping entries p ordered. puts_in_order order is_order grouping entries p ordered

pub returns-clause-first : goal.returns-clause-first
returns-clause-first c = λ order is_order grouping count partials p. first_suffice order is_order grouping count partials p

pub returns-clause-groups : goal.returns-clause-groups
returns-clause-groups c = λ order is_order grouping fed entries ordered stand. ordered_are_groups order is_order grouping fed entries ordered stand
