use Rattle.std.proofs.Common.{◌≡◌, []}
use Rattle.session_calls.specs.Having.{IsAtWork}
use Rattle.session_calls.specs.Jobs.{DoesIn}
use Rattle.session_calls.proofs.pinning.destroy_resting.Given as goal

-- the page is the same, and the session only waited
abbrev pub invariant-loop-hand : goal.invariant-loop-hand
invariant-loop-hand g l =
    g.A.Access.turns g.O.Opened.opening g.O.Opened.outset l.access l.place l.hand.session
    × IsAtWork g.D.Slot g.O.Opened.opening g.O.Opened.outset (g.A.Access.seen l.place) l.hand
    × DoesIn (λ events. events ≡ []) l.fn.hand l.hand
    × (l.p ≡ l.fn.p)

-- a session that is alone has no second round
abbrev pub decreases-loop-hand : goal.decreases-loop-hand
decreases-loop-hand g l = l.left
