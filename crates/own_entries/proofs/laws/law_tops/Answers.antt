use Rattle.own_entries.proofs.AboveTold.{legal_above_is_told}
use Rattle.own_entries.proofs.RootTight.{legal_root_is_tight}
use Rattle.own_entries.proofs.Alone.{legal_alone_under_root}
use Rattle.own_entries.proofs.AloneRefused.{legal_refuses_alone}
use Rattle.own_entries.proofs.laws.law_tops.Goals as goal

pub returns-clause-above : goal.returns-clause-above
returns-clause-above c = legal_above_is_told

pub returns-clause-tight : goal.returns-clause-tight
returns-clause-tight c = legal_root_is_tight

pub returns-clause-alone : goal.returns-clause-alone
returns-clause-alone c = legal_alone_under_root

pub returns-clause-refused : goal.returns-clause-refused
returns-clause-refused c = legal_refuses_alone
