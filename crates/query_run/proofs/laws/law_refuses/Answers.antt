use Rattle.query_run.proofs.Refusing.{refuses}
use Rattle.query_run.proofs.laws.law_refuses.Goals as goal

pub returns : goal.returns
returns c = record { law = refuses }
