use Rattle.std.proofs.Common.{◌≡◌, refl, sym, ap, ◌∙◌}
use Rattle.std.specs.FinMap as map
use Rattle.slab.specs.Slab.{get}
use Rattle.reservation_tree.proofs.Maps.{is_there}
use Rattle.page_table.proofs.Entries.{one_of}
use Rattle.page_table.proofs.Found.{row_of_live, entry_of_row}
use Rattle.page_table.proofs.Steps.{wrote}
use Rattle.page_table.proofs.table.PageTable.entry_mut.Goals as goal

pub index_mut-row-requires : goal.index_mut-row-requires
index_mut-row-requires g c =
    let row = row_of_live c.self.inside.rows c.self.inside.next_name c.self.inside.room c.args.self.now c.self.view_is c.args.id c.requires in
    is_there (get c.self.inside.rows c.args.id.key) row.0 row.1

pub invariant_of-self-lent : goal.invariant_of-self-lent
invariant_of-self-lent g c w =
    (wrote c.self.inside.rows c.self.inside.next_name c.self.inside.room c.args.self.now c.self.invariant c.self.view_is c.args.id c.index_mut-row.result.now w c.requires c.index_mut-row.ensures.value).sound

pub returns : goal.returns
returns g c =
    let row = row_of_live c.self.inside.rows c.self.inside.next_name c.self.inside.room c.args.self.now c.self.view_is c.args.id c.requires in
    let same : row.0 ≡ c.index_mut-row.result.now = one_of (get c.self.inside.rows c.args.id.key) row.0 c.index_mut-row.result.now row.1 c.index_mut-row.ensures.value in
    let named : c.index_mut-row.result.now.name ≡ c.args.id.name = ap (λ r. r.name) (sym same) ∙ row.2 in (
      (refl, λ w. (wrote c.self.inside.rows c.self.inside.next_name c.self.inside.room c.args.self.now c.self.invariant c.self.view_is c.args.id c.index_mut-row.result.now w c.requires c.index_mut-row.ensures.value).pages),
      record {
        writes_back = tt;
        value = ap (map.get c.args.self.now.entries) (sym named)
            ∙ entry_of_row c.self.inside.rows c.self.inside.next_name c.self.inside.room c.args.self.now c.self.view_is c.self.invariant.apart c.args.id.key c.index_mut-row.result.now c.index_mut-row.ensures.value;
      },
    )
