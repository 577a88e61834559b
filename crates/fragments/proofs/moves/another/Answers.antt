use Rattle.fragments.proofs.Balancing.{forks_fair}
use Rattle.fragments.proofs.moves.another.Goals as goal

pub another-requires-clause-rule : goal.another-requires-clause-rule
another-requires-clause-rule g c = forks_fair g.J.Admits.admits _ _ c.requires.parts
