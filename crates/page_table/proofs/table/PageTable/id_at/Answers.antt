use Rattle.std.proofs.Common.{sym}
use Rattle.page_table.proofs.Found.{id_there, no_id}
use Rattle.page_table.proofs.table.PageTable.id_at.Goals as goal

pub returns-in-Some : goal.returns-in-Some
returns-in-Some g c = id_there c.self.inside.rows c.self.inside.next_name c.self.inside.room c.args.self.now c.self.view_is c.args.key c.in-Some.row.now (sym c.in-Some.ensures)

pub returns-in-None : goal.returns-in-None
returns-in-None g c = no_id c.self.inside.rows c.self.inside.next_name c.self.inside.room c.args.self.now c.self.view_is c.args.key (sym c.in-None.ensures)
