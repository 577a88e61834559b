use Rattle.group_op.proofs.Started.{all_start}
use Rattle.group_op.proofs.laws.law_starts.Goals as goal

pub returns : goal.returns
returns c = record { law = all_start }
