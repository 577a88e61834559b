use Rattle.index_list.proofs.Calls.{IsMade}
use Rattle.index_list.proofs.table.Lists.with.Given as goal

abbrev pub invariant-loop-end : goal.invariant-loop-end
invariant-loop-end l = IsMade l.links.items l.nodes l.end l.entries
