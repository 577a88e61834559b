use Rattle.std.proofs.Common.{◌≡◌}
use Rattle.std.specs.Prelude.{All, FitsSigned}
use Rattle.std.specs.Int.{w128}
use Rattle.group_rows.proofs.Entries.{half}
use Rattle.group_op.specs.Stored.{numbers_at}
use Rattle.group_op.proofs.Joins.{half_joined}
use Rattle.group_op.proofs.lowest.join_into.Given as goal

abbrev pub invariant-loop-k : goal.invariant-loop-k
invariant-loop-k l = record {
  entry : l.entry ≡ half_joined l.shape l.k l.initial.entry l.row;
  fit : All (FitsSigned w128) (half l.k l.shape.aggs (numbers_at l.shape l.initial.entry) (numbers_at l.shape l.row));
}
