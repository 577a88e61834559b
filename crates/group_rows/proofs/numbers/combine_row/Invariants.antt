use Rattle.std.specs.Prelude.{◌≡◌, drop, map}
use Rattle.group_rows.specs.Aggregates.{number_of}
use Rattle.group_rows.proofs.Entries.{half}
use Rattle.group_rows.proofs.numbers.combine_row.Given as goal

abbrev pub invariant-loop-k : goal.invariant-loop-k
invariant-loop-k l = l.entry ≡ half l.k l.aggs l.initial.entry (map number_of (drop l.keys l.row))
