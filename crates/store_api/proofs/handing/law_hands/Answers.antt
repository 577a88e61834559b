use Rattle.store_api.proofs.Chained.{hands_then}
use Rattle.store_api.proofs.handing.law_hands.Goals as goal

pub returns-clause-then : goal.returns-clause-then
returns-clause-then g c = hands_then g.St.Store g.E.Emit
