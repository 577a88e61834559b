use Rattle.own_entries.proofs.Refused.{legal_refuses_as_told}
use Rattle.own_entries.proofs.laws.law_refusals.Goals as goal

pub returns : goal.returns
returns c = legal_refuses_as_told
