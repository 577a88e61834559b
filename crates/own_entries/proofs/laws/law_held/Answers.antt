use Rattle.own_entries.proofs.Held.{legal_holdings_are_told}
use Rattle.own_entries.proofs.laws.law_held.Goals as goal

pub returns : goal.returns
returns c = legal_holdings_are_told
