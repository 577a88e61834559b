use Rattle.store_api.proofs.Reserving.{kept_reserved}
use Rattle.store_api.proofs.mem_store.calls.MemStoreStore.reserve.Goals as goal

pub invariant_of-self : goal.invariant_of-self
invariant_of-self c = record {
  block = c.args.self.now.block;
  kept = kept_reserved c.args.self.now.block_len c.args.self.now.accounts c.reserve.new.self c.args.self.now.pieces c.args.self.now.kept c.reserve.result _ _ c.reserve.ensures.clients c.reserve.ensures.err;
}
