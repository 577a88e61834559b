use Rattle.pool_model.proofs.Failures.{legal_pages_are_owned}
use Rattle.pool_model.proofs.laws.law_owners.Goals as goal

pub returns : goal.returns
returns c = legal_pages_are_owned
