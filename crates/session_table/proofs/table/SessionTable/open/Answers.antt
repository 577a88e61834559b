use Rattle.session_table.proofs.Kept.{proper_opened}
use Rattle.session_table.proofs.table.SessionTable.open.Goals as goal

pub invariant_of-self : goal.invariant_of-self
invariant_of-self c = rw c.open.ensures (proper_opened c.self.inside.rows.items c.args.s c.self.invariant c.args.query c.args.quota)
