use Rattle.fragments.proofs.Balancing.{puts_fair}
use Rattle.fragments.proofs.moves.put.Goals as goal

pub push_as-requires-clause-rule : goal.push_as-requires-clause-rule
push_as-requires-clause-rule g c = (puts_fair g.J.Admits.admits _ _ _ _ c.requires.part c.requires.admits, λ items views b at. tt)
