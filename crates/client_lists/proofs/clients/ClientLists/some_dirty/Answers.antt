-- The front of the busy clients.
use Rattle.client_lists.proofs.Kept.{dirty-of, live-of, none-of}
use Rattle.client_lists.proofs.clients.ClientLists.some_dirty.Goals as goal

pub returns-clause-dirty : goal.returns-clause-dirty
returns-clause-dirty c =
    let a = c.self.inside in
    rw (← c.self.view_is) (dirty-of a.is_open.items a.pages a.busy c.self.invariant c.front.result c.front.ensures.first)

pub returns-clause-open : goal.returns-clause-open
returns-clause-open c =
    let a = c.self.inside in
    rw (← c.self.view_is) (live-of a.is_open.items a.pages a.busy c.self.invariant c.front.result c.front.ensures.first)

pub returns-clause-none : goal.returns-clause-none
returns-clause-none c =
    let a = c.self.inside in
    rw (← c.self.view_is) (none-of a.is_open.items a.pages a.busy c.self.invariant c.front.result c.front.ensures.first)
