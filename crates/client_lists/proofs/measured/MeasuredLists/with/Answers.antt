-- All sums of empty lists are nothing.
use Rattle.std.proofs.Common.{arith, rules}
use Rattle.client_lists.proofs.Summed.{summed-start}
use Rattle.client_lists.proofs.measured.MeasuredLists.with.Goals as goal

pub invariant_of-result : goal.invariant_of-result
invariant_of-result c =
    summed-start c.in_ok-table.table c.in_ok-lens.lens.items c.in_ok-sums.sums.items c.args.nodes c.args.lists (search rules) (search rules) (search rules) (omega arith)
