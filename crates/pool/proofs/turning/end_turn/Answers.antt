use Rattle.pool.proofs.Doings.{ends}
use Rattle.pool.proofs.turning.end_turn.Goals as goal

pub returns-clause-ends : goal.returns-clause-ends
returns-clause-ends g c =
    ends g.D.Slot g.T.Opened.opening g.T.Opened.outset.told g.T.Opened.first c.args.spot.now c.give_hand.new.place c.args.ledger.now c.see.new.self c.args.hand c.requires.may c.give_hand.ensures.grown c.see.ensures c.law_whole.ensures.fits c.law_whole.ensures.whole
