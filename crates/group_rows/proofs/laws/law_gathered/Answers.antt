use Rattle.group_rows.proofs.Gathering.{are_gathered, gathered_sum_is_true}
use Rattle.group_rows.proofs.laws.law_gathered.Goals as goal

pub returns-clause-gathered : goal.returns-clause-gathered
returns-clause-gathered c = are_gathered

pub returns-clause-sum : goal.returns-clause-sum
returns-clause-sum c = gathered_sum_is_true
