use Rattle.std.proofs.Common.{◌+◌, subst, arith}
use Rattle.block_arena.specs.Memory.{Buffer, IsBufferOf}
use Rattle.store_api.specs.MemAccounts.{clients_of, account_at}
use Rattle.store_api.specs.MemPieces.{page_at}
use Rattle.store_api.specs.declared.mem_store.piece.Stand.TheVariants.{Resting}
use Rattle.store_api.proofs.Turns.{resting_same}
use Rattle.store_api.proofs.PageTurns.{IsKnown, restood, pin_within}
use Rattle.store_api.proofs.mem_store.calls.MemStoreStore.unpin.Goals as goal

pub release-requires-clause-charged : goal.release-requires-clause-charged
release-requires-clause-charged c =
    let s = c.args.self.now in
    let known : IsKnown s.block_len s.pieces c.name-key.result c.args.p.now.name c.client.result c.args.p.now.client c.len_at-len.result 1 = record {
      named = c.name-key.ensures;
      owner = c.client.ensures;
      lives = c.requires.page.lives;
      client = c.requires.page.client;
      long = c.len_at-len.ensures;
      pins = c.requires.pinned;
    } in
    pin_within s.block_len (clients_of s.accounts.clients) s.pieces s.kept _ _ _ _ _ _ known (omega arith)

pub invariant_of-self : goal.invariant_of-self
invariant_of-self c =
    let s = c.args.self.now in
    let known : IsKnown s.block_len s.pieces c.name-key.result c.args.p.now.name c.client.result c.args.p.now.client c.len_at-len.result 1 = record {
      named = c.name-key.ensures;
      owner = c.client.ensures;
      lives = c.requires.page.lives;
      client = c.requires.page.client;
      long = c.len_at-len.ensures;
      pins = c.requires.pinned;
    } in
    let account = account_at c.client.result s.accounts.clients in
    record {
      block = s.block;
      kept = restood s.block_len (clients_of s.accounts.clients) s.pieces s.kept _ _ _ _ _ _ known (clients_of c.release.new.self.clients) c.rest_at.new.pieces (Resting c.args.buf) (record account { unused = account.unused + c.len_at-len.result })
          c.rest_at.ensures.changed c.release.ensures.clients
          (λ other same. subst (λ (b : Buffer). IsBufferOf (page_at c.args.p.now.name s.pieces).blocks s.block_len b) (resting_same c.args.buf other same) c.requires.buffer)
          (λ pins wrong. absurd (cc)) (omega arith);
    }
