use Rattle.std.proofs.Common.{◌≡◌, ◌+◌, vec_len}
use Rattle.std.specs.List.{All}
use Rattle.pool.specs.Passing.{writers_out}
use Rattle.pool.specs.Seats.{live_in}
use Rattle.tests_sessions.specs.Ending.{CanEnd}
use Rattle.tests_sessions.proofs.tests.asks.end_all.Given as goal

abbrev pub invariant-loop-i : goal.invariant-loop-i
invariant-loop-i g l =
    (vec_len l.sessions + l._i ≡ l._i-end) × (l.pass.table ≡ l.initial.pass.table)
    × All (λ s. CanEnd g.T.Opened.opening g.T.Opened.outset.told l.initial.pass.table s.seat) l.sessions.items
    × (live_in l.pass.knows.seen + l._i ≡ live_in l.initial.pass.knows.seen)
    × (writers_out l.pass ≡ writers_out l.initial.pass)
