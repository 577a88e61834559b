use Rattle.partition_stack.proofs.Coming.{sixteen_come, top_goes}
use Rattle.partition_stack.proofs.laws.law_top.Goals as goal

pub returns-clause-come : goal.returns-clause-come
returns-clause-come c = sixteen_come

pub returns-clause-goes : goal.returns-clause-goes
returns-clause-goes c = top_goes
