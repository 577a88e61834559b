use Rattle.own_entries.proofs.Idle.{legal_idle_is_whole}
use Rattle.own_entries.proofs.Ending.{legal_ends_idle}
use Rattle.own_entries.proofs.laws.law_ends.Goals as goal

pub returns-clause-whole : goal.returns-clause-whole
returns-clause-whole c = legal_idle_is_whole

pub returns-clause-ends : goal.returns-clause-ends
returns-clause-ends c = legal_ends_idle
