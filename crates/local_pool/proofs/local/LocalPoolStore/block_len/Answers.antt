use Rattle.local_pool.proofs.Lasting.{counted, counted_stale}
use Rattle.local_pool.proofs.local.LocalPoolStore.block_len.Goals as goal

pub returns-clause-counted : goal.returns-clause-counted
returns-clause-counted g c = counted c.args.self.now.alone

pub returns-clause-counted_stale : goal.returns-clause-counted_stale
returns-clause-counted_stale g c = counted_stale c.args.self.now.alone
