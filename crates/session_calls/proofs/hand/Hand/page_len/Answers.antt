use Rattle.std.proofs.Common.{◌∙◌}
use Rattle.session_calls.proofs.Pages.{is_there, page_client_lives, page_len_here}
use Rattle.session_calls.proofs.Knowing.{knows}
use Rattle.session_calls.proofs.hand.Hand.page_len.Goals as goal

pub page_len-requires : goal.page_len-requires
page_len-requires g c = (is_there (knows g.D.Slot g.O.Opened.opening g.O.Opened.outset c.args.self.now c.requires.ready) c.args.p.now c.requires.page).page

pub returns-clause-len : goal.returns-clause-len
returns-clause-len g c = c.page_len.ensures ∙ page_len_here (knows g.D.Slot g.O.Opened.opening g.O.Opened.outset c.args.self.now c.requires.ready) c.args.p.now c.requires.page

pub returns-clause-client : goal.returns-clause-client
returns-clause-client g c = page_client_lives (knows g.D.Slot g.O.Opened.opening g.O.Opened.outset c.args.self.now c.requires.ready) c.args.p.now c.requires.page
