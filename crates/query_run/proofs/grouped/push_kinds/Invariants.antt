use Rattle.std.proofs.Common.{◌≡◌, ◌++◌, map, take}
use Rattle.query_run.proofs.grouped.push_kinds.Given as goal

abbrev pub invariant-loop-column : goal.invariant-loop-column
invariant-loop-column l = l.kinds.items ≡ l.initial.kinds.items ++ map (λ c. c.kind) (take l.column-index l.columns)
