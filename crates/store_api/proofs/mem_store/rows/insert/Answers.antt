use Rattle.std.proofs.Common.{◌≡◌, Some, ap, arith}
use Rattle.slab.specs.Slab.{get}
use Rattle.store_api.specs.MemAccounts.{weight_of}
use Rattle.store_api.specs.declared.mem_store.account.MemAccount.{MemAccount}
use Rattle.store_api.proofs.Clients.{reserved-updates}
use Rattle.store_api.proofs.mem_store.rows.insert.Goals as goal

pub returns-clause-reserved : goal.returns-clause-reserved
returns-clause-reserved c =
    let old = c.args.clients.now in
    let both = reserved-updates old c.insert_reserved.new.self c.insert_reserved.result (Some c.args.account) c.insert_reserved.ensures.updates in
    let none : weight_of (λ (a : MemAccount). a.reservation) (get old c.insert_reserved.result) ≡ 0 = ap (weight_of (λ (a : MemAccount). a.reservation)) c.insert_reserved.ensures.was_vacant in
    omega (arith, both, none)
