use Rattle.partition_stack.proofs.Owned.{others_leave_owned, owned_stay}
use Rattle.partition_stack.proofs.laws.law_owned.Goals as goal

pub returns-clause-own : goal.returns-clause-own
returns-clause-own c = owned_stay

pub returns-clause-others : goal.returns-clause-others
returns-clause-others c = others_leave_owned
