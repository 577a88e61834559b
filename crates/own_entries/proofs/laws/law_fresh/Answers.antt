use Rattle.own_entries.proofs.Fresh.{legal_holds_only_live}
use Rattle.own_entries.proofs.laws.law_fresh.Goals as goal

pub returns : goal.returns
returns c = legal_holds_only_live
