use Rattle.std.proofs.Common.{◌+◌, ◌-◌, ◌≤◌, ◌∙◌, ℕ, sym, ap, arith}
use Rattle.store_api.specs.MemAccounts.{clients_of, account_at}
use Rattle.store_api.specs.MemPieces.{page_at}
use Rattle.store_api.specs.declared.mem_store.piece.Stand.TheVariants.{Pinned}
use Rattle.store_api.proofs.PageTurns.{IsKnown, restood, pin_within}
use Rattle.store_api.proofs.Turns.{pinned_same, one_less}
use Rattle.store_api.proofs.mem_store.calls.MemStoreStore.unpin_once.Goals as goal

pub release-requires-clause-charged : goal.release-requires-clause-charged
release-requires-clause-charged c =
    let s = c.args.self.now in
    let known : IsKnown s.block_len s.pieces c.name-key.result c.args.p.now.name c.client.result c.args.p.now.client c.len_at-len.result c.pins_at-count.result = record {
      named = c.name-key.ensures;
      owner = c.client.ensures;
      lives = c.requires.page.lives;
      client = c.requires.page.client;
      long = c.len_at-len.ensures;
      pins = ap (λ (k : ℕ). (page_at k s.pieces).pins) (sym c.name-key.ensures) ∙ sym c.pins_at-count.ensures;
    } in
    pin_within s.block_len (clients_of s.accounts.clients) s.pieces s.kept _ _ _ _ _ _ known (omega (arith, known.pins, c.requires.pinned))

pub invariant_of-self : goal.invariant_of-self
invariant_of-self c =
    let s = c.args.self.now in
    let known : IsKnown s.block_len s.pieces c.name-key.result c.args.p.now.name c.client.result c.args.p.now.client c.len_at-len.result c.pins_at-count.result = record {
      named = c.name-key.ensures;
      owner = c.client.ensures;
      lives = c.requires.page.lives;
      client = c.requires.page.client;
      long = c.len_at-len.ensures;
      pins = ap (λ (k : ℕ). (page_at k s.pieces).pins) (sym c.name-key.ensures) ∙ sym c.pins_at-count.ensures;
    } in
    let account = account_at c.client.result s.accounts.clients in
    let several : 2 ≤ c.pins_at-count.result = omega (arith, known.pins, c.requires.pinned) in
    record {
      block = s.block;
      kept = restood s.block_len (clients_of s.accounts.clients) s.pieces s.kept _ _ _ _ _ _ known (clients_of c.release.new.self.clients) c.repin_at.new.pieces (Pinned (c.pins_at-count.result - 1)) (record account { unused = account.unused + c.len_at-len.result })
          c.repin_at.ensures.changed c.release.ensures.clients (λ buf wrong. absurd (cc))
          (λ pins is. omega (arith, pinned_same (c.pins_at-count.result - 1) pins is, several))
          (omega (arith, one_less c.pins_at-count.result c.len_at-len.result (omega (arith, several))));
    }
