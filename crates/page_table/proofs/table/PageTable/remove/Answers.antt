use Rattle.std.proofs.Common.{ap, sym, ◌∙◌}
use Rattle.std.specs.FinMap as map
use Rattle.slab.specs.Slab.{get}
use Rattle.reservation_tree.proofs.Maps.{is_there}
use Rattle.page_table.proofs.Found.{row_of_live, name_of_live, entry_of_row}
use Rattle.page_table.proofs.Steps.{went}
use Rattle.page_table.proofs.table.PageTable.remove.Goals as goal

pub remove-entry-requires : goal.remove-entry-requires
remove-entry-requires g c =
    let row = row_of_live c.self.inside.rows c.self.inside.next_name c.self.inside.room c.args.self.now c.self.view_is c.args.id c.requires in
    is_there (get c.self.inside.rows c.args.id.key) row.0 row.1

pub invariant_of-self : goal.invariant_of-self
invariant_of-self g c = (went c.self.inside.rows c.remove-entry.new.self c.self.inside.next_name c.self.inside.room c.args.self.now c.self.invariant c.self.view_is c.args.id c.remove-entry.result c.requires c.remove-entry.ensures.value c.remove-entry.ensures.updates c.remove-entry.ensures.len c.remove-entry.ensures.capacity).sound

pub returns-clause-value : goal.returns-clause-value
returns-clause-value g c =
    ap (map.get c.args.self.now.entries) (sym (name_of_live c.self.inside.rows c.self.inside.next_name c.self.inside.room c.args.self.now c.self.view_is c.args.id c.remove-entry.result c.remove-entry.ensures.value c.requires))
    ∙ entry_of_row c.self.inside.rows c.self.inside.next_name c.self.inside.room c.args.self.now c.self.view_is c.self.invariant.apart c.args.id.key c.remove-entry.result c.remove-entry.ensures.value

pub returns-clause-pages : goal.returns-clause-pages
returns-clause-pages g c = (went c.self.inside.rows c.remove-entry.new.self c.self.inside.next_name c.self.inside.room c.args.self.now c.self.invariant c.self.view_is c.args.id c.remove-entry.result c.requires c.remove-entry.ensures.value c.remove-entry.ensures.updates c.remove-entry.ensures.len c.remove-entry.ensures.capacity).pages
