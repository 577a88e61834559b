use Rattle.std.proofs.Common.{◌≡◌, ◌++◌, map, take}
use Rattle.query_plan.specs.Columns.{with_front}
use Rattle.query_plan.proofs.columns.push_behind.Given as goal

abbrev pub invariant-loop-column : goal.invariant-loop-column
invariant-loop-column l = l.out.items ≡ l.initial.out.items ++ map (with_front l.front) (take l.column-index l.columns)
