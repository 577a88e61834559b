use Rattle.std.proofs.Common.{◌≡◌}
use Rattle.session_calls.specs.Acting.{held_by}
use Rattle.pool.proofs.Seen.{SeesSome}
use Rattle.pool.proofs.ledger.Ledger.see.Given as goal

abbrev pub invariant-loop-place : goal.invariant-loop-place
invariant-loop-place g l =
    SeesSome l.fn.self.accounts l.self.accounts (held_by g.O.Opened.opening g.O.Opened.outset l.fn.hand) l.place
    × (l.self.room ≡ (held_by g.O.Opened.opening g.O.Opened.outset l.fn.hand).room)
