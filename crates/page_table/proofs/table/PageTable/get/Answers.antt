use Rattle.std.proofs.Common.{sym, arith, refl}
use Rattle.page_table.proofs.Found.{shown, live_of_row, name_of_live, not_live, entry_of_ended}
use Rattle.page_table.proofs.table.PageTable.get.Goals.{in_default-via-in-Some+else-row-id, in_default-via-in_default}
use Rattle.page_table.proofs.table.PageTable.get.Goals as goal

pub returns-in-Some-clause-value : goal.returns-in-Some-clause-value
returns-in-Some-clause-value g c = shown c.self.inside.rows c.self.inside.next_name c.self.inside.room c.args.self.now c.self.view_is c.self.invariant.apart c.args.id c.in-Some.row.now (sym c.in-Some.ensures) (omega (arith, c.if-row-id.true))

pub returns-in-Some-clause-live : goal.returns-in-Some-clause-live
returns-in-Some-clause-live g c = (
  λ _. live_of_row c.self.inside.rows c.self.inside.next_name c.self.inside.room c.args.self.now c.self.view_is c.args.id c.in-Some.row.now (sym c.in-Some.ensures) (omega (arith, c.if-row-id.true)),
  λ _. refl,
)

pub returns-in_default-clause-value : goal.returns-in_default-clause-value
returns-in_default-clause-value g c = sym (entry_of_ended c.args.self.now c.args.id (λ live. elim c.in_default.branch [
  | in_default-via-in-Some+else-row-id w ↦ omega (arith, w.if-row-id.false, name_of_live c.self.inside.rows c.self.inside.next_name c.self.inside.room c.args.self.now c.self.view_is c.args.id w.in-Some.row.now (sym w.in-Some.ensures) live)
  | in_default-via-in_default w ↦ not_live c.self.inside.rows c.self.inside.next_name c.self.inside.room c.args.self.now c.self.view_is c.args.id (sym w.in_default.ensures) live
]))

pub returns-in_default-clause-live : goal.returns-in_default-clause-live
returns-in_default-clause-live g c = (
  λ never. absurd (cc),
  λ live. absurd (elim c.in_default.branch [
    | in_default-via-in-Some+else-row-id w ↦ omega (arith, w.if-row-id.false, name_of_live c.self.inside.rows c.self.inside.next_name c.self.inside.room c.args.self.now c.self.view_is c.args.id w.in-Some.row.now (sym w.in-Some.ensures) live)
    | in_default-via-in_default w ↦ not_live c.self.inside.rows c.self.inside.next_name c.self.inside.room c.args.self.now c.self.view_is c.args.id (sym w.in_default.ensures) live
  ]),
)
