use Rattle.join_op.proofs.Started.{all_start}
use Rattle.join_op.proofs.laws.law_starts.Goals as goal

pub returns : goal.returns
returns c = record { law = all_start }
