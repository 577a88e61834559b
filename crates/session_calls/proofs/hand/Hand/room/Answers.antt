use Rattle.std.proofs.Common.{sym, ap, ◌∙◌, subst}
use Rattle.reservation_tree.specs.Tracker.{IsLive}
use Rattle.pin_core.specs.StateOf.{state_of}
use Rattle.pin_core.specs.calls.Entering.{unused_of}
use Rattle.session_calls.proofs.Clients.{seat_lives, query_lives, room_here}
use Rattle.session_calls.proofs.Knowing.{knows}
use Rattle.session_calls.proofs.hand.Hand.room.Goals as goal

pub tracker-requires : goal.tracker-requires
tracker-requires g c = seat_lives (knows g.D.Slot g.O.Opened.opening g.O.Opened.outset c.args.self.now c.requires)

pub unused-requires : goal.unused-requires
unused-requires g c = subst (IsLive (state_of c.args.self.now.state).trackers) (sym c.tracker.ensures) (query_lives (knows g.D.Slot g.O.Opened.opening g.O.Opened.outset c.args.self.now c.requires))

pub returns-clause-value : goal.returns-clause-value
returns-clause-value g c =
    c.unused.ensures ∙ ap (unused_of (state_of c.args.self.now.state)) c.tracker.ensures ∙ room_here (knows g.D.Slot g.O.Opened.opening g.O.Opened.outset c.args.self.now c.requires)

pub returns-clause-fits : goal.returns-clause-fits
returns-clause-fits g c = (knows g.D.Slot g.O.Opened.opening g.O.Opened.outset c.args.self.now c.requires).fits.query
