use Rattle.std.proofs.Common.{◌≤◌, ◌-◌, length}
use Rattle.csv_edge.proofs.row.fit.Given as goal

abbrev pub invariant-loop-row : goal.invariant-loop-row
invariant-loop-row l = length l.row.items ≤ l.len

abbrev pub decreases-loop-row : goal.decreases-loop-row
decreases-loop-row l = l.len - length l.row.items
