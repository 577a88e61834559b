use Rattle.std.proofs.Common.{◌≡◌, map, take}
use Rattle.row_codec.specs.declared.values.Value.TheVariants.{Text}
use Rattle.query_run.proofs.header.joined_header.Given as goal

abbrev pub invariant-loop-column : goal.invariant-loop-column
invariant-loop-column l = l.row.items ≡ map (λ column. Text column.name) (take l.column-index l.column-items)
