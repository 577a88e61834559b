use Rattle.std.proofs.Common.{◌≡◌, ◌+◌, ◌≤◌}
use Rattle.std.specs.List.{All}
use Rattle.pool.specs.Remaining.{quotas_of}
use Rattle.tests_sessions.proofs.tests.asks.asks_of.Given as goal

abbrev pub invariant-loop-row : goal.invariant-loop-row
invariant-loop-row g l = All (λ ask. 1 ≤ ask.count) l.asks.items × (quotas_of l.asks.items + l.left ≡ l.spare)
