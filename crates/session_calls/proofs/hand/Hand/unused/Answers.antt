use Rattle.std.proofs.Common.{◌∙◌}
use Rattle.session_calls.proofs.Clients.{client_lives}
use Rattle.session_calls.proofs.Knowing.{knows}
use Rattle.session_calls.proofs.hand.Hand.unused.Goals as goal

pub unused-requires : goal.unused-requires
unused-requires g c = client_lives (knows g.D.Slot g.O.Opened.opening g.O.Opened.outset c.args.self.now c.requires.ready) c.args.client c.requires.client

pub returns-clause-value : goal.returns-clause-value
returns-clause-value g c = c.unused.ensures ∙ (knows g.D.Slot g.O.Opened.opening g.O.Opened.outset c.args.self.now c.requires.ready).unused_is c.args.client c.requires.client

pub returns-clause-fits : goal.returns-clause-fits
returns-clause-fits g c = (knows g.D.Slot g.O.Opened.opening g.O.Opened.outset c.args.self.now c.requires.ready).fits.accounts c.args.client c.requires.client
