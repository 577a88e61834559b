use Rattle.std.specs.Prelude.{◌≡◌}
use Rattle.group_rows.proofs.Entries.{half}
use Rattle.group_rows.proofs.numbers.combine_into.Given as goal

abbrev pub invariant-loop-k : goal.invariant-loop-k
invariant-loop-k l = l.entry ≡ half l.k l.aggs l.initial.entry l.partial
