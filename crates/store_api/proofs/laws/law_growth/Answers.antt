use Rattle.store_api.proofs.Limits.{refuses_over_limits}
use Rattle.store_api.proofs.laws.law_growth.Goals as goal

pub returns : goal.returns
returns c = record { law = refuses_over_limits }
