use Rattle.std.proofs.Common.{◌≡◌, ◌++◌, take}
use Rattle.query_plan.specs.Columns.{behind}
use Rattle.query_run.proofs.header.push_behind.Given as goal

abbrev pub invariant-loop-column : goal.invariant-loop-column
invariant-loop-column l = l.out.items ≡ l.initial.out.items ++ behind l.front (take l.column-index l.columns)
