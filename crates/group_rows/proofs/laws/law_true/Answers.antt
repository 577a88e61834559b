use Rattle.group_rows.proofs.Bounding.{extremes_are_true, sums_are_true}
use Rattle.group_rows.proofs.laws.law_true.Goals as goal

pub returns-clause-sums : goal.returns-clause-sums
returns-clause-sums c = sums_are_true

pub returns-clause-extremes : goal.returns-clause-extremes
returns-clause-extremes c = extremes_are_true
