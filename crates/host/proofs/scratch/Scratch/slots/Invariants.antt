use Rattle.std.proofs.Common.{◌≡◌, vec_len}
use Rattle.host.proofs.scratch.Scratch.slots.Given as goal

abbrev pub invariant-loop-number : goal.invariant-loop-number
invariant-loop-number g l = vec_len l.slots ≡ l.number
