use Rattle.std.proofs.Common.{◌≡◌, ◌+◌, vec_len}
use Rattle.std.specs.List.{All, sum_by}
use Rattle.pool.specs.Passing.{writers_out}
use Rattle.pool.specs.Seats.{live_in}
use Rattle.pool.specs.Asking.{answer_of}
use Rattle.tests_sessions.specs.Ending.{AllCanEnd, came_by}
use Rattle.tests_sessions.proofs.tests.asks.ask_together.Given as goal

-- the sessions of the answers that are left can end, and with those that ended none would have come
abbrev pub invariant-loop-i : goal.invariant-loop-i
invariant-loop-i g l =
    (vec_len l.answers + l.i ≡ l.i-end) × (l.pass.table ≡ l.pool)
    × All (λ a. AllCanEnd g.T.Opened.opening g.T.Opened.outset.told l.pool (answer_of (λ v. v.items) (λ s. s.seat) a)) l.answers.items
    × (live_in l.pass.knows.seen ≡ live_in l.fn.pass.knows.seen + sum_by (λ a. came_by (answer_of (λ v. v.items) (λ s. s.seat) a)) l.answers.items)
    × (writers_out l.pass ≡ writers_out l.fn.pass)
