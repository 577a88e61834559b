use Rattle.group_rows.proofs.Standing.{keeps_standing}
use Rattle.group_rows.proofs.laws.law_stands.Goals as goal

pub returns : goal.returns
returns c = record { law = keeps_standing }
