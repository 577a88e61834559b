-- One account more, where there was room.
use Rattle.std.proofs.Common.{◌≡◌, ◌<◌, None, length, sym, subst}
use Rattle.pool.specs.Unused.{AreProper, unused_in}
use Rattle.pool.proofs.Changes.{unused_added}
use Rattle.pool.proofs.Kept.{proper_added}
use Rattle.pool.proofs.accounts.ClientAccounts.add.Goals as goal

pub invariant_of-self : goal.invariant_of-self
invariant_of-self c =
    let items = c.self.inside.accounts.items in
    let room : length items < 16 = rw (← c.self.view_is) at c.requires.room in
    let fresh : unused_in items c.args.tracker ≡ None = rw (← c.self.view_is) at c.requires.fresh in (
      subst AreProper (sym c.push_reserved.ensures.items) (proper_added items (record { tracker = c.args.tracker; unused = c.args.unused }) c.self.invariant.0 room fresh),
      rw c.push_reserved.ensures.capacity c.self.invariant.1,
    )

pub returns-clause-unused : goal.returns-clause-unused
returns-clause-unused c =
    let items = c.self.inside.accounts.items in
    let fresh : unused_in items c.args.tracker ≡ None = rw (← c.self.view_is) at c.requires.fresh in
    rw (c.push_reserved.ensures.items, ← c.self.view_is) (unused_added items c.args.tracker c.args.unused fresh)
