use Rattle.std.proofs.Common.{refl, rules}
use Rattle.store_api.proofs.Reserving.{kept_added, new_is_idle}
use Rattle.store_api.specs.MemAccounts.{clients_of}
use Rattle.store_api.proofs.mem_store.calls.MemStoreStore.add_client.Goals as goal

pub invariant_of-self : goal.invariant_of-self
invariant_of-self c =
    let s = c.args.self.now in
    record {
      block = s.block;
      kept = kept_added s.block_len s.accounts c.add.new.self s.pieces s.kept c.add.result (record { limit = c.args.limit; reservation = 0; unused = 0 }) refl c.add.ensures.fresh c.add.ensures.clients c.add.ensures.none;
    }

pub returns-in-Some-clause-ok : goal.returns-in-Some-clause-ok
returns-in-Some-clause-ok c =
    let s = c.args.self.now in
    let idle = new_is_idle s.block_len (clients_of s.accounts.clients) s.pieces s.kept c.in-Some.tracker c.in-Some.ensures.fresh in
    record {
      fresh = search rules;
      under = search rules;
      idle = record { pages = search (rules, idle.pages); loans = search (rules, idle.loans) };
      session = search rules;
      holdings = search rules;
    }
