use Rattle.pool_model.proofs.Kept.{legal_fits_trackers}
use Rattle.pool_model.proofs.laws.law_clients.Goals as goal

pub returns-clause-trackers : goal.returns-clause-trackers
returns-clause-trackers c = legal_fits_trackers
