use Rattle.pool_model.proofs.Resting.{legal_contents_are_told}
use Rattle.pool_model.proofs.laws.law_contents.Goals as goal

pub returns : goal.returns
returns c = legal_contents_are_told
