-- When every end leads to itself, all lists are empty.
use Rattle.std.proofs.Common.{rules}
use Rattle.index_list.specs.Listing.{empty}
use Rattle.index_list.proofs.Shown.{Shows, shows-invariant, shows-view}
use Rattle.index_list.proofs.Calls.{made-shows}
use Rattle.index_list.proofs.table.Lists.with.Goals as goal

made : (c : goal.After-loop-end) → Shows c.loop-end.links.items c.args.nodes c.args.lists (empty c.args.nodes c.args.lists)
made c = made-shows c.loop-end.links.items c.args.nodes c.args.lists c.loop-end.end c.in_ok-entries.entries c.loop-end.invariant c.loop-end-test.false (search rules) (search rules)

pub invariant_of-result : goal.invariant_of-result
invariant_of-result c = shows-invariant (record { links = c.loop-end.links; nodes = c.args.nodes; lists = c.args.lists }) (empty c.args.nodes c.args.lists) (made c)

pub returns : goal.returns
returns c = shows-view (record { links = c.loop-end.links; nodes = c.args.nodes; lists = c.args.lists }) (empty c.args.nodes c.args.lists) (made c)
