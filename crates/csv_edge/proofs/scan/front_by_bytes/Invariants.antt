use Rattle.std.proofs.Common.{◌≡◌, ◌++◌, ◌+◌, ◌-◌, ℕ, List, drop}
use Rattle.csv_edge.specs.Pieces.{front_len}
use Rattle.csv_edge.proofs.scan.front_by_bytes.Given as goal

abbrev pub invariant-loop-byte : goal.invariant-loop-byte
invariant-loop-byte l = (l.len ≡ l.byte-index)
    × ((more : List ℕ) → front_len l.fn.start l.least (l.bytes ++ more) ≡ l.byte-index + front_len l.scan (l.least - l.byte-index) (drop l.byte-index l.bytes ++ more))
