-- The account at a place is that of its tracker.
use Rattle.std.proofs.Common.{◌<◌, length}
use Rattle.pool.proofs.Found.{there_read}
use Rattle.pool.proofs.accounts.ClientAccounts.tracker.Goals as goal

pub returns-clause-there : goal.returns-clause-there
returns-clause-there c =
    let items = c.self.inside.accounts.items in
    let within : c.args.place < length items = rw (← c.self.view_is) at c.requires in
    rw (← c.self.view_is) (there_read items c.args.place c.index.result.now within c.index.ensures)
