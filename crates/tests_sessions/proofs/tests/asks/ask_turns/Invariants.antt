use Rattle.std.proofs.Common.{◌≡◌}
use Rattle.tests_sessions.specs.Ending.{AsMany}
use Rattle.tests_sessions.proofs.tests.asks.ask_turns.Given as goal

abbrev pub invariant-loop-asked : goal.invariant-loop-asked
invariant-loop-asked g l = (l.pass.table ≡ l.pool) × AsMany l.initial.pass l.pass
