use Rattle.std.proofs.Common.{ℕ, ◌<◌, ◌≢◌}
use Rattle.pool.specs.Unused.{tracker_at}
use Rattle.tests_sessions.proofs.tests.accounts.has.Given as goal

abbrev pub invariant-loop-place : goal.invariant-loop-place
invariant-loop-place l = (p : ℕ) → p < l.place → tracker_at l.accounts p ≢ l.tracker
