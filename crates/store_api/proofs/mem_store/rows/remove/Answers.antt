use Rattle.std.proofs.Common.{◌≡◌, None, ap, arith}
use Rattle.slab.specs.Slab.{get}
use Rattle.store_api.specs.MemAccounts.{weight_of}
use Rattle.store_api.specs.declared.mem_store.account.MemAccount.{MemAccount}
use Rattle.store_api.proofs.Clients.{reserved-updates}
use Rattle.store_api.proofs.mem_store.rows.remove.Goals as goal

pub returns-clause-reserved : goal.returns-clause-reserved
returns-clause-reserved c =
    let old = c.args.clients.now in
    let both = reserved-updates old c.remove.new.self c.args.key None c.remove.ensures.updates in
    let was : weight_of (λ (a : MemAccount). a.reservation) (get old c.args.key) ≡ c.remove.result.reservation = ap (weight_of (λ (a : MemAccount). a.reservation)) c.remove.ensures.value in
    omega (arith, both, was)
