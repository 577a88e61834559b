use Rattle.group_rows.proofs.Giving.{gives}
use Rattle.group_rows.proofs.GroupKeys.{keys_of_groups}
use Rattle.group_rows.proofs.laws.law_gives_groups.Goals as goal

pub returns-clause-keys : goal.returns-clause-keys
returns-clause-keys c = keys_of_groups

pub returns-clause-groups : goal.returns-clause-groups
returns-clause-groups c = gives
