use Rattle.std.proofs.Common.{[], if◌then◌else◌}
use Rattle.store_api.specs.Entries.{IsAsked}
use Rattle.pin_core.specs.StateOf.{state_of}
use Rattle.pin_core.specs.calls.Turns.{amount_of}
use Rattle.session_calls.specs.Writing.{writes_left}
use Rattle.session_calls.specs.Acting.{held_by}
use Rattle.session_calls.specs.Having.{IsAtWork}
use Rattle.session_calls.specs.Jobs.{DoesIn}
use Rattle.session_calls.specs.Needing.{EntersNeeded}
use Rattle.session_calls.proofs.asking.make_room.Given as goal

-- the call asked and wrote, as was needed
abbrev pub invariant-loop-hand : goal.invariant-loop-hand
invariant-loop-hand g l =
    g.A.Access.turns g.O.Opened.opening g.O.Opened.outset l.access l.place l.hand.session
    × IsAtWork g.D.Slot g.O.Opened.opening g.O.Opened.outset (g.A.Access.seen l.place) l.hand
    × DoesIn (IsAsked l.c.tracker (held_by g.O.Opened.opening g.O.Opened.outset l.fn.hand) []) l.fn.hand l.hand
    × EntersNeeded l.c.tracker (amount_of l.want) l.fn.hand l.hand

-- alone, each write leaves one less, or is the last; beside others, a turn less is left
abbrev pub decreases-loop-hand : goal.decreases-loop-hand
decreases-loop-hand g l = if g.A.Access.alone then writes_left l.hand.session l.c.tracker (state_of l.hand.state) else l.left
