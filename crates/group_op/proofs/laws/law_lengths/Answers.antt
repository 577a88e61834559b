use Rattle.group_op.proofs.Weighing.{row_is_long}
use Rattle.group_op.proofs.laws.law_lengths.Goals as goal

pub returns : goal.returns
returns c = record { law = row_is_long }
