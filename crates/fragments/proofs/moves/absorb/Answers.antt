use Rattle.fragments.proofs.Balancing.{merges_fair}
use Rattle.fragments.proofs.moves.absorb.Goals as goal

pub absorb-requires-clause-rule : goal.absorb-requires-clause-rule
absorb-requires-clause-rule g c = merges_fair g.J.Admits.admits _ _ _ _ c.requires.part
