use Rattle.session_table.proofs.Kept.{proper_closed}
use Rattle.session_table.proofs.table.SessionTable.close.Goals as goal

pub invariant_of-self : goal.invariant_of-self
invariant_of-self c = rw c.close.ensures (proper_closed c.self.inside.rows.items c.args.s c.self.invariant)
