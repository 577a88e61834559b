use Rattle.pool.proofs.Storing.{counted, counted_stale}
use Rattle.pool.proofs.session.SessionStore.block_len.Goals as goal

pub returns-clause-counted : goal.returns-clause-counted
returns-clause-counted g c = counted g.T.Opened.opening c.args.self.now.seat

pub returns-clause-counted_stale : goal.returns-clause-counted_stale
returns-clause-counted_stale g c = counted_stale g.T.Opened.opening c.args.self.now.seat
