use Rattle.std.proofs.Common.{sym}
use Rattle.page_table.proofs.Found.{live_iff, not_live}
use Rattle.page_table.proofs.table.PageTable.is_live.Goals as goal

pub returns-in-Some : goal.returns-in-Some
returns-in-Some g c = live_iff c.self.inside.rows c.self.inside.next_name c.self.inside.room c.args.self.now c.self.view_is c.args.id c.in-Some.row.now (sym c.in-Some.ensures)

pub returns-in-None : goal.returns-in-None
returns-in-None g c = (
  λ never. absurd (cc),
  λ live. absurd (not_live c.self.inside.rows c.self.inside.next_name c.self.inside.room c.args.self.now c.self.view_is c.args.id (sym c.in-None.ensures) live),
)
