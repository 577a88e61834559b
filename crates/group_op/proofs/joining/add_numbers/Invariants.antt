use Rattle.std.proofs.Common.{◌≡◌}
use Rattle.std.specs.Prelude.{All, FitsSigned}
use Rattle.std.specs.Int.{w128}
use Rattle.bucket_table.specs.Tables.{row_of, with_nodes, with_row}
use Rattle.group_rows.proofs.Entries.{half}
use Rattle.group_op.specs.Stored.{numbers_at}
use Rattle.group_op.proofs.Joins.{half_joined}
use Rattle.group_op.proofs.joining.add_numbers.Given as goal

abbrev pub invariant-loop-k : goal.invariant-loop-k
invariant-loop-k l = record {
  table : l.table ≡ with_nodes (with_row l.node (half_joined l.shape l.k (row_of l.node l.initial.table.nodes) l.row) l.initial.table.nodes) l.initial.table;
  fit : All (FitsSigned w128) (half l.k l.shape.aggs (numbers_at l.shape (row_of l.node l.initial.table.nodes)) (numbers_at l.shape l.row));
}
