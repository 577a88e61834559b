use Rattle.std.proofs.Common.{rules}
use Rattle.store_api.proofs.LoanTurns.{hand_keeps, freed_fits}
use Rattle.store_api.specs.MemAccounts.{clients_of}
use Rattle.store_api.proofs.mem_store.calls.MemStoreStore.move_buffer.Goals as goal

pub pass-requires-clause-charged : goal.pass-requires-clause-charged
pass-requires-clause-charged c =
    let s = c.args.self.now in
    freed_fits s.block_len (clients_of s.accounts.clients) s.pieces s.kept c.number-number.result c.args.loan.number c.client-from.result c.args.loan.client c.len_at-len.result c.number-number.ensures c.client-from.ensures c.requires.loan.lives c.requires.loan.client c.len_at-len.ensures

pub invariant_of-self : goal.invariant_of-self
invariant_of-self c =
    let s = c.args.self.now in
    record {
      block = s.block;
      kept = hand_keeps s.block_len (clients_of s.accounts.clients) s.pieces s.kept (clients_of c.pass.new.self.clients) c.hand_over.new.pieces c.number-number.result c.args.loan.number c.client-from.result c.args.loan.client c.tracker-target.result c.len_at-len.result c.number-number.ensures c.client-from.ensures c.requires.loan.lives c.requires.loan.client (search rules) c.len_at-len.ensures (search rules) (search rules) c.hand_over.ensures.changed c.pass.ensures.clients;
    }
