use Rattle.std.proofs.Common.{◌≡◌, ◌≤◌, drop}
use Rattle.csv_edge.specs.Ints.{number_from, number_of}
use Rattle.spill_top.proofs.number.number_of.Given as goal

abbrev pub invariant-loop-byte : goal.invariant-loop-byte
invariant-loop-byte l = (l.number ≤ l.most) × (number_of l.digits ≡ number_from l.number (drop l.byte-index l.digits))
