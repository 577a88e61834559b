use Rattle.page_table.proofs.Steps.{proper}
use Rattle.page_table.proofs.table.PageTable.law_proper.Goals as goal

pub returns : goal.returns
returns g c = proper c.self.inside.rows c.self.inside.next_name c.self.inside.room c.args.self.now c.self.invariant c.self.view_is
