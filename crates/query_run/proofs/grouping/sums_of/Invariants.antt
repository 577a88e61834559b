use Rattle.std.proofs.Common.{◌≡◌, ◌≤◌, ◌-◌, map}
use Rattle.std.specs.List.{range_with_len}
use Rattle.row_codec.specs.declared.values.Agg.TheVariants.{Sum}
use Rattle.query_run.proofs.grouping.sums_of.Given as goal

abbrev pub invariant-loop-column : goal.invariant-loop-column
invariant-loop-column l = (l.keys ≤ l.column) × (l.sums.items ≡ map Sum (range_with_len l.keys (l.column - l.keys)))
