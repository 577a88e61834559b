use Rattle.std.proofs.Common.{◌+◌, ◌-◌, ◌≤◌, ◌∙◌, ℕ, sym, ap, arith, rules}
use Rattle.store_api.specs.MemAccounts.{clients_of, account_at}
use Rattle.store_api.specs.MemPieces.{page_at}
use Rattle.store_api.specs.declared.mem_store.piece.Stand.TheVariants.{Pinned}
use Rattle.store_api.proofs.PageTurns.{IsKnown, restood, page_owned, one_more_within}
use Rattle.store_api.proofs.Clients.{within_reserved}
use Rattle.store_api.proofs.Turns.{pinned_same, one_more}
use Rattle.store_api.proofs.mem_store.calls.MemStoreStore.pin_again.Goals as goal

pub overflow_add-count : goal.overflow_add-count
overflow_add-count c =
    let s = c.args.self.now in
    let known : IsKnown s.block_len s.pieces c.name-key.result c.args.p.now.name c.client.result c.args.p.now.client c.len_at-len.result c.pins_at-count.result = record {
      named = c.name-key.ensures;
      owner = c.client.ensures;
      lives = c.requires.page.lives;
      client = c.requires.page.client;
      long = c.len_at-len.ensures;
      pins = ap (λ (k : ℕ). (page_at k s.pieces).pins) (sym c.name-key.ensures) ∙ sym c.pins_at-count.ensures;
    } in
    let owned = page_owned s.block_len (clients_of s.accounts.clients) s.pieces s.kept _ _ _ _ _ _ known in
    let within : (account_at c.client.result s.accounts.clients).reservation ≤ s.accounts.reservation = omega (arith, within_reserved s.accounts.clients c.client.result owned, s.accounts.whole) in
    let fits = one_more_within s.block_len (clients_of s.accounts.clients) s.pieces s.kept _ _ _ _ _ _ known (search rules) (search rules) in
    omega (arith, fits, within, s.accounts.fits, s.accounts.short)

pub invariant_of-self : goal.invariant_of-self
invariant_of-self c =
    let s = c.args.self.now in
    let known : IsKnown s.block_len s.pieces c.name-key.result c.args.p.now.name c.client.result c.args.p.now.client c.len_at-len.result c.pins_at-count.result = record {
      named = c.name-key.ensures;
      owner = c.client.ensures;
      lives = c.requires.page.lives;
      client = c.requires.page.client;
      long = c.len_at-len.ensures;
      pins = ap (λ (k : ℕ). (page_at k s.pieces).pins) (sym c.name-key.ensures) ∙ sym c.pins_at-count.ensures;
    } in
    let fits : c.len_at-len.result ≤ (account_at c.client.result s.accounts.clients).unused = search rules in
    let account = account_at c.client.result s.accounts.clients in
    record {
      block = s.block;
      kept = restood s.block_len (clients_of s.accounts.clients) s.pieces s.kept _ _ _ _ _ _ known (clients_of c.charge.new.self.clients) c.repin_at.new.pieces (Pinned (c.pins_at-count.result + 1)) (record account { unused = account.unused - c.len_at-len.result })
          c.repin_at.ensures.changed c.charge.ensures.clients (λ buf wrong. absurd (cc))
          (λ pins is. omega (arith, pinned_same (c.pins_at-count.result + 1) pins is))
          (omega (arith, one_more c.pins_at-count.result c.len_at-len.result, fits));
    }
