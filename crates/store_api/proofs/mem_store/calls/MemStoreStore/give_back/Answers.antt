use Rattle.std.proofs.Common.{arith, rules}
use Rattle.store_api.specs.Changes.{lowered}
use Rattle.store_api.specs.MemAccounts.{account_at}
use Rattle.store_api.proofs.Reserving.{kept_put}
use Rattle.store_api.proofs.mem_store.calls.MemStoreStore.give_back.Goals as goal

pub invariant_of-self : goal.invariant_of-self
invariant_of-self c = record {
  block = c.args.self.now.block;
  kept = kept_put c.args.self.now.block_len c.args.self.now.accounts c.fall.new.self c.args.self.now.pieces c.args.self.now.kept c.tracker.result (lowered c.args.bytes (account_at c.tracker.result c.args.self.now.accounts.clients)) (search (rules, arith)) c.fall.ensures.clients;
}
