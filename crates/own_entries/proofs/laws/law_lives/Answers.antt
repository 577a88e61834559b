use Rattle.own_entries.proofs.Lives.{legal_lives_as_told}
use Rattle.own_entries.proofs.laws.law_lives.Goals as goal

pub returns : goal.returns
returns c = legal_lives_as_told
