use Rattle.std.proofs.Common.{arith}
use Rattle.store_api.proofs.Clients.{within_reserved}
use Rattle.store_api.proofs.mem_store.accounts.Accounts.unused.Goals as goal

pub returns-clause-within : goal.returns-clause-within
returns-clause-within c = let most = within_reserved c.args.self.now.clients c.args.t c.requires in omega (arith, most, c.args.self.now.whole)
