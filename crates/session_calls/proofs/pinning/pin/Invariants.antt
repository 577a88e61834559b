use Rattle.std.proofs.Common.{[], if◌then◌else◌}
use Rattle.pin_core.specs.StateOf.{state_of}
use Rattle.store_api.specs.Holdings.{page_len}
use Rattle.store_api.specs.Entries.{IsAsked}
use Rattle.session_calls.specs.Writing.{writes_left}
use Rattle.session_calls.specs.Acting.{held_by}
use Rattle.session_calls.specs.Having.{IsAtWork}
use Rattle.session_calls.specs.Jobs.{DoesIn}
use Rattle.session_calls.specs.Needing.{EntersNeeded}
use Rattle.session_calls.proofs.pinning.pin.Given as goal

-- the call asked and wrote, as was needed
abbrev pub invariant-loop-buf : goal.invariant-loop-buf
invariant-loop-buf g l =
    g.A.Access.turns g.O.Opened.opening g.O.Opened.outset l.access l.place l.hand.session
    × IsAtWork g.D.Slot g.O.Opened.opening g.O.Opened.outset (g.A.Access.seen l.place) l.hand
    × DoesIn (IsAsked l.p.client (held_by g.O.Opened.opening g.O.Opened.outset l.fn.hand) []) l.fn.hand l.hand
    × EntersNeeded l.p.client (page_len l.p.name (held_by g.O.Opened.opening g.O.Opened.outset l.fn.hand)) l.fn.hand l.hand

-- where the session is alone each write leaves one less, or is the last
abbrev pub decreases-loop-buf : goal.decreases-loop-buf
decreases-loop-buf g l = if g.A.Access.alone then writes_left l.hand.session l.p.client (state_of l.hand.state) else l.left
