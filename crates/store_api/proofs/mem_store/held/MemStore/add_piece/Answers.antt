use Rattle.std.proofs.Common.{◌-◌, ap, arith, rules}
use Rattle.slab.specs.Slab.{Slab}
use Rattle.store_api.specs.declared.mem_store.piece.Piece.{Piece}
use Rattle.store_api.specs.MemAccounts.{clients_of, account_at}
use Rattle.store_api.proofs.Coming.{regrown, kept_regrown, come_no_page, come_no_loan}
use Rattle.store_api.proofs.Turns.{kept_come}
use Rattle.store_api.proofs.mem_store.held.MemStore.add_piece.Goals as goal

pub invariant_of-self : goal.invariant_of-self
invariant_of-self c =
    let s = c.args.self.now in
    record {
      block = s.block;
      kept = kept_regrown s.pieces c.reserve.new.self (ap (λ (x : Slab Piece). x.slots) c.reserve.ensures.rest_kept) s.block_len (clients_of s.accounts.clients) s.kept;
    }

pub invariant_of-self-2 : goal.invariant_of-self-2
invariant_of-self-2 c =
    let s = c.args.self.now in
    let r = c.reserve.new.self in
    let kept = kept_regrown s.pieces r (ap (λ (x : Slab Piece). x.slots) c.reserve.ensures.rest_kept) s.block_len (clients_of s.accounts.clients) s.kept in
    let piece : Piece = record { client = c.args.client; blocks = c.args.blocks; stand = c.args.stand } in
    let account = account_at c.args.client s.accounts.clients in
    record {
      block = s.block;
      kept = kept_come s.block_len (clients_of s.accounts.clients) r kept (clients_of c.charge.new.self.clients) c.come-key.new.pieces c.come-key.result piece c.come-key.ensures.fresh c.come-key.ensures.changed (record account { unused = account.unused - c.len_of-len.result }) c.charge.ensures.clients c.requires.client (search rules) c.requires.blocks c.requires.charged (omega (arith, c.len_of-len.ensures, c.requires.unused));
    }

pub returns-clause-ok : goal.returns-clause-ok
returns-clause-ok c =
    let old = c.args.self.now.pieces in
    let now = c.come-key.new.pieces in
    let key = c.come-key.result in
    let same = ap (λ (x : Slab Piece). x.slots) c.reserve.ensures.rest_kept in
    let changed = regrown old c.reserve.new.self same now key _ c.come-key.ensures.changed in
    record {
      fresh = search rules;
      short = search rules;
      pages = changed.pages;
      loans = changed.loans;
      no_page = λ none. come_no_page old c.reserve.new.self same now key _ c.come-key.ensures.changed c.come-key.ensures.fresh none;
      no_loan = λ none. come_no_loan old c.reserve.new.self same now key _ c.come-key.ensures.changed c.come-key.ensures.fresh none;
      fits = search rules;
      zeros = search rules;
      clients = search rules;
      live = search rules;
      limit = search rules;
      reservation = search rules;
      room = search rules;
    }
