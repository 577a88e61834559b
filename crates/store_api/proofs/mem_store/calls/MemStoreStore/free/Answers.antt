use Rattle.store_api.proofs.LoanTurns.{freed_keeps, freed_fits}
use Rattle.store_api.specs.MemAccounts.{clients_of}
use Rattle.store_api.proofs.mem_store.calls.MemStoreStore.free.Goals as goal

pub release-requires-clause-charged : goal.release-requires-clause-charged
release-requires-clause-charged c =
    let s = c.args.self.now in
    freed_fits s.block_len (clients_of s.accounts.clients) s.pieces s.kept c.number-key.result c.args.loan.number c.client.result c.args.loan.client c.len_at-len.result c.number-key.ensures c.client.ensures c.requires.lives c.requires.client c.len_at-len.ensures

pub invariant_of-self : goal.invariant_of-self
invariant_of-self c =
    let s = c.args.self.now in
    record {
      block = s.block;
      kept = freed_keeps s.block_len (clients_of s.accounts.clients) s.pieces s.kept (clients_of c.release.new.self.clients) c.end_loan.new.pieces c.number-key.result c.args.loan.number c.client.result c.args.loan.client c.len_at-len.result c.number-key.ensures c.client.ensures c.requires.lives c.requires.client c.len_at-len.ensures c.end_loan.ensures.changed c.release.ensures.clients;
    }
