use Rattle.std.proofs.Common.{sym, ◌∙◌}
use Rattle.pool.proofs.Reading.{len_held}
use Rattle.pool.proofs.seat.SessionSeat.block_len.Goals as goal

pub returns-clause-value : goal.returns-clause-value
returns-clause-value g c = c.self.invariant.len ∙ sym (len_held g.T.Opened.opening g.T.Opened.outset.told c.args.self.now)
