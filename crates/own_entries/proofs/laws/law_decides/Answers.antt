use Rattle.own_entries.proofs.Held.{own_entries_decide}
use Rattle.own_entries.proofs.laws.law_decides.Goals as goal

pub returns : goal.returns
returns c = own_entries_decide
