use Rattle.std.proofs.Common.{◌≡◌, take}
use Rattle.tests_operators.proofs.tests.partials.are_kinds.Given as goal

abbrev pub invariant-loop-i : goal.invariant-loop-i
invariant-loop-i l = take l.i l.kinds ≡ take l.i l.others
