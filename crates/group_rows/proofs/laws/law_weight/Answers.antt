use Rattle.group_rows.proofs.Lengths.{fits_weight, length_by_key, stay_as_long}
use Rattle.group_rows.proofs.laws.law_weight.Goals as goal

pub returns-clause-fits : goal.returns-clause-fits
returns-clause-fits c = fits_weight

pub returns-clause-same : goal.returns-clause-same
returns-clause-same c = stay_as_long

pub returns-clause-by_key : goal.returns-clause-by_key
returns-clause-by_key c = length_by_key
