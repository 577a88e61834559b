use Rattle.std.proofs.Common.{◌≡◌, vec_len}
use Rattle.example_sessions.proofs.slots_in_memory.Given as goal

abbrev pub invariant-loop-i : goal.invariant-loop-i
invariant-loop-i l = vec_len l.slots ≡ l._i
