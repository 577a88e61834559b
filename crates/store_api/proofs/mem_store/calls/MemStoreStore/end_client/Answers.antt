use Rattle.store_api.proofs.Reserving.{ended_keeps}
use Rattle.store_api.specs.MemAccounts.{clients_of}
use Rattle.store_api.proofs.mem_store.calls.MemStoreStore.end_client.Goals as goal

pub invariant_of-self : goal.invariant_of-self
invariant_of-self c =
    let s = c.args.self.now in
    record {
      block = s.block;
      kept = ended_keeps s.block_len (clients_of s.accounts.clients) s.pieces s.kept (clients_of c.end.new.self.clients) c.into_tracker.result c.args.c.tracker c.into_tracker.ensures (record { pages = c.requires.idle.pages; loans = c.requires.idle.loans }) c.end.ensures.clients;
    }
