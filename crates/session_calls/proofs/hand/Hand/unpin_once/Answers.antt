use Rattle.std.proofs.Common.{refl}
use Rattle.session_calls.proofs.Pages.{spare_here}
use Rattle.session_calls.specs.declared.hand.Hand.{Hand}
use Rattle.session_calls.proofs.Knowing.{knows}
use Rattle.session_calls.proofs.Left.{once_ready}
use Rattle.session_calls.proofs.hand.Hand.unpin_once.Goals as goal

pub unpin_once-requires : goal.unpin_once-requires
unpin_once-requires g c = record { several = spare_here (knows g.D.Slot g.O.Opened.opening g.O.Opened.outset c.args.self.now c.requires.ready) c.args.p.now c.requires.page c.requires.pinned }

pub returns-clause-ready : goal.returns-clause-ready
returns-clause-ready g c =
    let new : Hand g.row.D.Denot = record { state = c.unpin_once.new.self; trail = c.enter.new.trail; counts = c.args.self.now.counts; session = c.args.self.now.session; gone = c.args.self.now.gone } in
    once_ready g.D.Slot g.O.Opened.opening g.O.Opened.outset c.args.self.now new c.requires.ready c.args.p.now c.name-page.result c.requires.page c.requires.pinned c.name-page.ensures c.enter.ensures refl refl c.unpin_once.ensures.enters
