use Rattle.group_op.proofs.Asks.{asks_own}
use Rattle.group_op.proofs.laws.law_asks_own.Goals as goal

pub returns : goal.returns
returns c = record { law = asks_own }
