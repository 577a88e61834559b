use Rattle.sub_alloc.proofs.Beside.{of_given_back, of_reserved}
use Rattle.sub_alloc.proofs.laws.law_alloc_stays.Goals as goal

pub returns-clause-reserved : goal.returns-clause-reserved
returns-clause-reserved c = of_reserved

pub returns-clause-given_back : goal.returns-clause-given_back
returns-clause-given_back c = of_given_back
