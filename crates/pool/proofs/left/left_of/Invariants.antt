use Rattle.std.proofs.Common.{◌≡◌, ◌≤◌}
use Rattle.pin_core.specs.StateOf.{state_of}
use Rattle.pool.specs.Remaining.{vacancies}
use Rattle.pool.proofs.left.left_of.Given as goal

abbrev pub invariant-loop-s : goal.invariant-loop-s
invariant-loop-s g l = (l.numbers ≡ vacancies (state_of l.state).sessions l.s) × (l.numbers ≤ l.s)
