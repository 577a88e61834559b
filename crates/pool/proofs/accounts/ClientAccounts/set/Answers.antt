-- The account at a place keeps its tracker.
use Rattle.std.proofs.Common.{◌<◌, length}
use Rattle.pool.proofs.Found.{tracker_read}
use Rattle.pool.proofs.Changes.{unused_written, trackers_written}
use Rattle.pool.proofs.Kept.{proper_written}
use Rattle.pool.proofs.accounts.ClientAccounts.set.Goals as goal

pub invariant_of-self : goal.invariant_of-self
invariant_of-self c =
    let items = c.self.inside.accounts.items in
    let within : c.args.place < length items = rw (← c.self.view_is) at c.requires in
    let is = tracker_read items c.args.place c.index_mut.result.now within c.index_mut.ensures.value in
    (rw is (proper_written items c.args.place c.args.unused c.self.invariant.0), c.self.invariant.1)

pub returns-clause-unused : goal.returns-clause-unused
returns-clause-unused c =
    let items = c.self.inside.accounts.items in
    let within : c.args.place < length items = rw (← c.self.view_is) at c.requires in
    let is = tracker_read items c.args.place c.index_mut.result.now within c.index_mut.ensures.value in
    rw (is, ← c.self.view_is) (unused_written items c.self.invariant.0.distinct c.args.place c.args.unused within)

pub returns-clause-trackers : goal.returns-clause-trackers
returns-clause-trackers c =
    let items = c.self.inside.accounts.items in
    let within : c.args.place < length items = rw (← c.self.view_is) at c.requires in
    let is = tracker_read items c.args.place c.index_mut.result.now within c.index_mut.ensures.value in
    rw (is, ← c.self.view_is) (trackers_written items c.args.place c.args.unused)
