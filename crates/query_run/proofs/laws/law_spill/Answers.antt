use Rattle.query_run.proofs.Spilled.{kept_is_laid}
use Rattle.query_run.proofs.laws.law_spill.Goals as goal

pub returns : goal.returns
returns c = record { law = kept_is_laid }
