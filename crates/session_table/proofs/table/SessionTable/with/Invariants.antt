use Rattle.std.proofs.Common.{◌≡◌, ◌≤◌, replicate, vec_len, vec_capacity, None}
use Rattle.session_table.proofs.table.SessionTable.with.Given as goal

abbrev pub invariant-loop-i : goal.invariant-loop-i
invariant-loop-i l = (l.rows.items ≡ replicate l._i None) × (vec_len l.rows ≡ l._i) × (240 ≤ vec_capacity l.rows)
