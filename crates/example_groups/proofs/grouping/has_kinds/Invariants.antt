use Rattle.std.proofs.Common.{◌≡◌, take}
use Rattle.row_codec.specs.Row.{kinds_of}
use Rattle.example_groups.proofs.grouping.has_kinds.Given as goal

abbrev pub invariant-loop-i : goal.invariant-loop-i
invariant-loop-i l = kinds_of (take l.i l.row) ≡ take l.i l.kinds
