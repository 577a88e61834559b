use Rattle.std.proofs.Common.{◌+◌}
use Rattle.slab.specs.Slab.{get, with_value}
use Rattle.store_api.specs.MemAccounts.{reserved}
use Rattle.store_api.proofs.Clients.{written, if_weighs}
use Rattle.store_api.proofs.mem_store.rows.write.Goals as goal

pub returns-clause-reserved : goal.returns-clause-reserved
returns-clause-reserved c =
    let old = c.args.clients.now in
    let w = written old c.args.key c.args.account c.requires in
    if_weighs (get old c.args.key) (reserved (with_value old c.args.key c.args.account)) (reserved old + c.args.account.reservation) w.reserved
