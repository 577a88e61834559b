use Rattle.pool.proofs.Doings.{begins}
use Rattle.pool.proofs.turning.begin_turn.Goals as goal

pub returns-clause-begins : goal.returns-clause-begins
returns-clause-begins g c =
    begins g.D.Slot g.T.Opened.opening g.T.Opened.outset.told g.T.Opened.first (record { number = c.args.number; spot = c.args.spot.now }) c.take_hand.new.place c.take_hand.result c.requires.sits c.take_hand.ensures.takes
