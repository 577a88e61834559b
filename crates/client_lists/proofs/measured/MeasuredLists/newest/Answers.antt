-- The back of a list stands on it.
use Rattle.std.proofs.Common.{◌-◌, length}
use Rattle.index_list.specs.Listing.{nodes_on}
use Rattle.client_lists.proofs.Summed.{measured-of, there-of, none-last}
use Rattle.client_lists.proofs.measured.MeasuredLists.newest.Goals as goal

pub returns-clause-there : goal.returns-clause-there
returns-clause-there c =
    let t = c.self.inside.lists in
    rw (← c.self.view_is) (there-of t c.self.invariant.proper c.args.list (length (nodes_on c.args.list t) - 1) c.back.result c.back.ensures)

pub returns-clause-none : goal.returns-clause-none
returns-clause-none c = rw (← c.self.view_is, c.back.ensures) (none-last (nodes_on c.args.list c.self.inside.lists))

pub returns-clause-measured : goal.returns-clause-measured
returns-clause-measured c = rw (← c.self.view_is) (measured-of c.self.inside.lists c.self.inside.lens.items c.self.inside.sums.items c.self.invariant)
