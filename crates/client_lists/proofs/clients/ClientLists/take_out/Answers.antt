-- The node leaves its list, and its client the busy ones where that was its last dirty page.
use Rattle.std.proofs.Common.{◌≡◌, Some, ap}
use Rattle.index_list.specs.Listing.{list_with, nodes_on}
use Rattle.client_lists.specs.declared.which.Which.TheVariants.{Dirty}
use Rattle.client_lists.specs.Clients.{Measured, place, is_filled}
use Rattle.client_lists.specs.Inside.{Settles}
use Rattle.client_lists.proofs.Kept.{kept-removed}
use Rattle.client_lists.proofs.clients.ClientLists.take_out.Goals as goal

pub invariant_of-self : goal.invariant_of-self
invariant_of-self c =
    let a = c.self.inside in
    let there : list_with c.args.node a.pages.lists ≡ Some (place c.args.client c.requires.which) = rw (← c.self.view_is) at c.requires.there in
    let settled : Settles c.args.client (is_filled (nodes_on (place c.args.client Dirty) c.remove.new.self.lists)) a.busy c.settle.new.busy = rw (c.is_filled-has_dirty.ensures, c.place.ensures) at c.settle.ensures in
    kept-removed a.is_open.items a.pages c.remove.new.self a.busy c.settle.new.busy c.args.client c.args.node c.requires.which c.self.invariant c.remove.ensures.measured.proper there (ap (λ (m : Measured). m.lists) c.remove.ensures.taken) settled
