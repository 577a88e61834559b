use Rattle.std.proofs.Common.{ℕ, ◌+◌, ◌<◌}
use Rattle.std.specs.Prelude.{slice_index_or}
use Rattle.group_op.proofs.ordering.rises.Given as goal

abbrev pub invariant-loop-at : goal.invariant-loop-at
invariant-loop-at l = (k : ℕ) → k + 1 < l.at → (slice_index_or l.pathed k (0, 0)).0 < (slice_index_or l.pathed (k + 1) (0, 0)).0
