use Rattle.std.proofs.Common.{◌≤◌, refl, sym, arith}
use Rattle.store_api.specs.MemAccounts.{clients_of, account_at}
use Rattle.store_api.specs.MemPieces.{page_at}
use Rattle.store_api.proofs.Clients.{within_reserved}
use Rattle.store_api.proofs.PageTurns.{IsKnown, page_owned, charge_within}
use Rattle.store_api.proofs.mem_store.held.MemStore.charge_at.Goals as goal

pub overflow_mul-result : goal.overflow_mul-result
overflow_mul-result c =
    let s = c.args.self.now in
    let t = (page_at c.args.key s.pieces).client in
    let known : IsKnown s.block_len s.pieces c.args.key c.args.key t t c.len_at.result c.pins_at.result = record {
      named = refl;
      owner = refl;
      lives = c.requires;
      client = refl;
      long = c.len_at.ensures;
      pins = sym c.pins_at.ensures;
    } in
    let fits = charge_within s.block_len (clients_of s.accounts.clients) s.pieces s.kept _ _ _ _ _ _ known in
    let owned = page_owned s.block_len (clients_of s.accounts.clients) s.pieces s.kept _ _ _ _ _ _ known in
    let within : (account_at t s.accounts.clients).reservation ≤ s.accounts.reservation = omega (arith, within_reserved s.accounts.clients t owned, s.accounts.whole) in
    omega (arith, fits, within, s.accounts.fits, s.accounts.short)
