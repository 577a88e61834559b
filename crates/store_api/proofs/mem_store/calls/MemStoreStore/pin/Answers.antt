use Rattle.std.proofs.Common.{◌-◌, ◌≤◌, ℕ, rules, arith}
use Rattle.store_api.specs.MemAccounts.{clients_of, account_at}
use Rattle.store_api.specs.declared.mem_store.piece.Stand.TheVariants.{Pinned}
use Rattle.store_api.proofs.Turns.{pinned_same}
use Rattle.store_api.proofs.PageTurns.{IsKnown, restood, rests_whole, page_counted}
use Rattle.store_api.proofs.mem_store.calls.MemStoreStore.pin.Goals as goal

pub pin_at-requires-clause-counted : goal.pin_at-requires-clause-counted
pin_at-requires-clause-counted c =
    let s = c.args.self.now in
    page_counted s.block_len (clients_of s.accounts.clients) s.pieces s.kept c.name-key.result c.args.p.now.name c.name-key.ensures c.requires.page.lives

pub invariant_of-self : goal.invariant_of-self
invariant_of-self c =
    let s = c.args.self.now in
    let t : ℕ = c.client.result in
    let fits : c.len_at-len.result ≤ (account_at t s.accounts.clients).unused = search rules in
    let account = account_at t s.accounts.clients in
    let known : IsKnown s.block_len s.pieces c.name-key.result c.args.p.now.name t c.args.p.now.client c.len_at-len.result 0 = record {
      named = c.name-key.ensures;
      owner = c.client.ensures;
      lives = c.requires.page.lives;
      client = c.requires.page.client;
      long = c.len_at-len.ensures;
      pins = c.requires.rests;
    } in
    record {
      block = s.block;
      kept = restood s.block_len (clients_of s.accounts.clients) s.pieces s.kept _ _ _ _ _ _ known (clients_of c.charge.new.self.clients) c.pin_at.new.pieces (Pinned 1) (record account { unused = account.unused - c.len_at-len.result })
          c.pin_at.ensures.changed c.charge.ensures.clients (λ buf wrong. absurd (cc)) (λ pins is. omega (arith, pinned_same 1 pins is)) (omega (arith, fits));
    }

pub returns-clause-bytes : goal.returns-clause-bytes
returns-clause-bytes c =
    let s = c.args.self.now in
    let known : IsKnown s.block_len s.pieces c.name-key.result c.args.p.now.name c.client.result c.args.p.now.client c.len_at-len.result 0 = record {
      named = c.name-key.ensures;
      owner = c.client.ensures;
      lives = c.requires.page.lives;
      client = c.requires.page.client;
      long = c.len_at-len.ensures;
      pins = c.requires.rests;
    } in
    record {
      fits = rests_whole s.block_len (clients_of s.accounts.clients) s.pieces s.kept _ _ _ _ _ _ known c.pin_at.result c.pin_at.ensures.was;
      bytes = λ told. cc;
    }
