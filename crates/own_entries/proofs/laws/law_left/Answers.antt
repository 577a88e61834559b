use Rattle.own_entries.proofs.LeftTold.{left_is_told}
use Rattle.own_entries.proofs.laws.law_left.Goals as goal

pub returns : goal.returns
returns c = left_is_told
