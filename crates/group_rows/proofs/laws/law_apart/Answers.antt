use Rattle.group_rows.proofs.OneKey.{stands_for_its_rows}
use Rattle.group_rows.proofs.Standing.{any_rows, together}
use Rattle.group_rows.proofs.laws.law_apart.Goals as goal

pub returns-clause-together : goal.returns-clause-together
returns-clause-together c = together

pub returns-clause-group : goal.returns-clause-group
returns-clause-group c = stands_for_its_rows

pub returns-clause-order : goal.returns-clause-order
returns-clause-order c = any_rows
