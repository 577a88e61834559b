use Rattle.pool_model.proofs.Kept.{legal_fits_trackers}
use Rattle.pool_model.proofs.laws.law_trackers.Goals as goal

pub returns : goal.returns
returns c = legal_fits_trackers
