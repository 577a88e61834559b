-- The client is open, and the node is on no list in between.
use Rattle.std.proofs.Common.{◌≡◌, Some}
use Rattle.index_list.specs.Listing.{list_with}
use Rattle.index_list.proofs.Places.{list_with-without}
use Rattle.client_lists.specs.Clients.{place}
use Rattle.client_lists.proofs.Summed.{node-in}
use Rattle.client_lists.proofs.Kept.{open-of}
use Rattle.client_lists.proofs.clients.ClientLists.shift.Goals as goal

pub push-requires-clause-open : goal.push-requires-clause-open
push-requires-clause-open c =
    let a = c.self.inside in
    let there : list_with c.args.node a.pages.lists ≡ Some (place c.args.client c.requires.which) = rw (← c.self.view_is) at c.requires.there in
    rw (c.take_out.ensures.taken, ← c.self.view_is) (open-of a.is_open.items a.pages a.busy c.args.client c.args.node c.requires.which c.self.invariant there)

pub push-requires-clause-node_in : goal.push-requires-clause-node_in
push-requires-clause-node_in c =
    let a = c.self.inside in
    let there : list_with c.args.node a.pages.lists ≡ Some (place c.args.client c.requires.which) = rw (← c.self.view_is) at c.requires.there in
    rw (c.take_out.ensures.taken, ← c.self.view_is) (node-in a.pages.lists c.len-len.ensures.measured.proper c.args.node (place c.args.client c.requires.which) there)

pub push-requires-clause-nowhere : goal.push-requires-clause-nowhere
push-requires-clause-nowhere c = rw c.take_out.ensures.taken (list_with-without c.args.self.now.pages.lists c.args.node)
