use Rattle.std.specs.Prelude.{◌≡◌, map}
use Rattle.group_rows.specs.Aggregates.{own_number}
use Rattle.group_rows.proofs.Entries.{half}
use Rattle.group_rows.proofs.numbers.take_row.Given as goal

abbrev pub invariant-loop-k : goal.invariant-loop-k
invariant-loop-k l = l.entry ≡ half l.k l.aggs l.initial.entry (map (λ agg. own_number agg l.row) l.aggs)
