use Rattle.partition_stack.proofs.Stacking.{few_partitions}
use Rattle.partition_stack.proofs.laws.law_few_partitions.Goals as goal

pub returns : goal.returns
returns c = record { law = few_partitions }
