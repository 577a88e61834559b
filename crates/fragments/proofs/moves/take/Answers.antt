use Rattle.fragments.proofs.Balancing.{takes_fair, learns_fair}
use Rattle.fragments.proofs.moves.take.Goals as goal

pub pop_as-requires-clause-rule : goal.pop_as-requires-clause-rule
pop_as-requires-clause-rule g c = (takes_fair g.J.Admits.admits _ _ c.requires.part, learns_fair g.J.Admits.admits _ _)
