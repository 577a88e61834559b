use Rattle.std.proofs.Common.{◌≡◌, vec_len, vec_capacity}
use Rattle.scratch_dev.proofs.tests.failing.Given as goal

abbrev pub invariant-loop-i : goal.invariant-loop-i
invariant-loop-i l = (vec_len l.slots ≡ l.i) × (vec_capacity l.slots ≡ 3)
