use Rattle.std.proofs.Common.{◌*◌, ℕ, refl, ap, sym, rules, arith}
use Rattle.store_api.specs.MemAccounts.{clients_of}
use Rattle.store_api.specs.MemPieces.{page_at, piece_at}
use Rattle.store_api.proofs.PageTurns.{IsKnown, ended, charge_within}
use Rattle.store_api.proofs.mem_store.calls.MemStoreStore.destroy.Goals as goal

pub release-requires-clause-charged : goal.release-requires-clause-charged
release-requires-clause-charged c =
    let s = c.args.self.now in
    let known : IsKnown s.block_len s.pieces c.into_name-key.result c.args.p.name c.client-client.result c.args.p.client ((piece_at c.into_name-key.result s.pieces).blocks * s.block_len) (page_at c.into_name-key.result s.pieces).pins = record {
      named = c.into_name-key.ensures;
      owner = c.client-client.ensures;
      lives = c.requires.page.lives;
      client = c.requires.page.client;
      long = refl;
      pins = ap (λ (k : ℕ). (page_at k s.pieces).pins) (sym c.into_name-key.ensures);
    } in
    omega (arith, charge_within s.block_len (clients_of s.accounts.clients) s.pieces s.kept _ _ _ _ _ _ known, c.charge_at-charge.ensures)

pub invariant_of-self : goal.invariant_of-self
invariant_of-self c =
    let s = c.args.self.now in
    let known : IsKnown s.block_len s.pieces c.into_name-key.result c.args.p.name c.client-client.result c.args.p.client ((piece_at c.into_name-key.result s.pieces).blocks * s.block_len) (page_at c.into_name-key.result s.pieces).pins = record {
      named = c.into_name-key.ensures;
      owner = c.client-client.ensures;
      lives = c.requires.page.lives;
      client = c.requires.page.client;
      long = refl;
      pins = ap (λ (k : ℕ). (page_at k s.pieces).pins) (sym c.into_name-key.ensures);
    } in
    record {
      block = s.block;
      kept = ended s.block_len (clients_of s.accounts.clients) s.pieces s.kept _ _ _ _ _ _ known (clients_of c.release.new.self.clients) c.end_page.new.pieces c.end_page.ensures.changed (search rules);
    }
