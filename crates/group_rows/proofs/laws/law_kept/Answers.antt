use Rattle.group_rows.proofs.Keeping.{distinct_stay, ordered_stay, weigh_no_more}
use Rattle.group_rows.proofs.laws.law_kept.Goals as goal

pub returns-clause-ordered : goal.returns-clause-ordered
returns-clause-ordered c = ordered_stay

pub returns-clause-distinct : goal.returns-clause-distinct
returns-clause-distinct c = distinct_stay

pub returns-clause-weight : goal.returns-clause-weight
returns-clause-weight c = λ order is_order grouping weight partials. weigh_no_more order is_order weight grouping partials
