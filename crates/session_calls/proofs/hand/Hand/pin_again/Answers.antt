use Rattle.std.proofs.Common.{refl}
use Rattle.session_calls.proofs.Pages.{pinned_here, page_room_here}
use Rattle.session_calls.specs.declared.hand.Hand.{Hand}
use Rattle.session_calls.proofs.Knowing.{knows}
use Rattle.session_calls.proofs.Granted.{pinned_again}
use Rattle.session_calls.proofs.hand.Hand.pin_again.Goals as goal

pub pin_again_now-requires-clause-pinned : goal.pin_again_now-requires-clause-pinned
pin_again_now-requires-clause-pinned g c = pinned_here (knows g.D.Slot g.O.Opened.opening g.O.Opened.outset c.args.self.now c.requires.ready) c.args.p.now c.requires.page c.requires.pinned

pub pin_again_now-requires-clause-room : goal.pin_again_now-requires-clause-room
pin_again_now-requires-clause-room g c = page_room_here (knows g.D.Slot g.O.Opened.opening g.O.Opened.outset c.args.self.now c.requires.ready) c.args.p.now c.requires.page c.requires.room

pub returns-clause-ready : goal.returns-clause-ready
returns-clause-ready g c =
    let new : Hand g.row.D.Denot = record { state = c.pin_again_now.new.self; trail = c.enter.new.trail; counts = c.args.self.now.counts; session = c.args.self.now.session; gone = c.args.self.now.gone } in
    pinned_again g.D.Slot g.O.Opened.opening g.O.Opened.outset c.args.self.now c.requires.ready c.args.p.now c.requires.page c.name-page.result c.name-page.ensures new c.pin_again_now.ensures.enters c.enter.ensures refl refl
