use Rattle.session_calls.proofs.Knowing.{knows}
use Rattle.session_calls.proofs.hand.Hand.law_whole.Goals as goal

pub returns-clause-whole : goal.returns-clause-whole
returns-clause-whole g c = (knows g.D.Slot g.O.Opened.opening g.O.Opened.outset c.args.self.now c.requires).idle

pub returns-clause-fits : goal.returns-clause-fits
returns-clause-fits g c = (knows g.D.Slot g.O.Opened.opening g.O.Opened.outset c.args.self.now c.requires).fits
