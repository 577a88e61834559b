use Rattle.std.proofs.Common.{◌≡◌, ◌==◌, count_by, take}
use Rattle.host.proofs.progress.line_ends.Given as goal

abbrev pub invariant-loop-byte : goal.invariant-loop-byte
invariant-loop-byte l = l.ends ≡ count_by (λ byte. byte == 10) (take l.byte-index l.bytes)
