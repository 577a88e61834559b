use Rattle.std.proofs.Common.{◌≡◌, ◌%◌, ◌==◌, count_by, take}
use Rattle.host.proofs.quotes.quotes_in.Given as goal

abbrev pub invariant-loop-byte : goal.invariant-loop-byte
invariant-loop-byte l = l.count ≡ count_by (λ byte. byte == 34) (take l.byte-index l.bytes) % 256
