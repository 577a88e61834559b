use Rattle.std.proofs.Common.{refl, arith, rules}
use Rattle.store_api.specs.MemAccounts.{clients_of, account_at}
use Rattle.store_api.specs.declared.mem_store.piece.Stand.TheVariants.{Lent}
use Rattle.store_api.proofs.Turns.{kept_alike}
use Rattle.store_api.proofs.PageTurns.{IsKnown, restood, page_short, page_owned}
use Rattle.store_api.proofs.mem_store.calls.MemStoreStore.extract.Goals as goal

pub invariant_of-self : goal.invariant_of-self
invariant_of-self c =
    let s = c.args.self.now in
    let clients = clients_of s.accounts.clients in
    let known : IsKnown s.block_len s.pieces c.into_name-key.result c.args.p.name c.client-client.result c.args.p.client _ 1 = record {
      named = c.into_name-key.ensures;
      owner = c.client-client.ensures;
      lives = c.requires.page.lives;
      client = c.requires.page.client;
      long = refl;
      pins = c.requires.pinned;
    } in
    record {
      block = s.block;
      kept = restood s.block_len clients s.pieces s.kept _ _ _ _ _ _ known clients c.stand.new.pieces Lent (account_at c.client-client.result s.accounts.clients)
          c.stand.ensures.changed (kept_alike s.block_len clients s.pieces s.kept c.client-client.result (page_owned s.block_len clients s.pieces s.kept _ _ _ _ _ _ known))
          (λ buf wrong. absurd (cc)) (λ pins wrong. absurd (cc)) (omega arith);
    }

pub overflow_cast-key : goal.overflow_cast-key
overflow_cast-key c =
    let s = c.args.self.now in
    let short = page_short s.block_len (clients_of s.accounts.clients) s.pieces s.kept c.into_name-key.result c.args.p.name c.into_name-key.ensures c.requires.page.lives in search (rules, short)
