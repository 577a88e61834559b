use Rattle.std.proofs.Common.{◌≡◌, ◌++◌, map, take}
use Rattle.row_codec.specs.declared.values.Value.TheVariants.{Text}
use Rattle.query_run.specs.Plans.{name_at}
use Rattle.query_run.proofs.header.push_columns.Given as goal

abbrev pub invariant-loop-place : goal.invariant-loop-place
invariant-loop-place l = l.row.items ≡ l.initial.row.items ++ map (λ place. Text (name_at l.columns place)) (take l.place-index l.places)
