use Rattle.reservation_tree.specs.Rows.{with_reservation}
use Rattle.reservation_tree.proofs.Held.{row_there}
use Rattle.reservation_tree.proofs.Writes.{still_there}
use Rattle.reservation_tree.proofs.Strides.{raised_root, raised_under, under_by}
use Rattle.reservation_tree.proofs.tree.Tree.raise.Goals as goal

pub set_reservation-requires : goal.set_reservation-requires
set_reservation-requires c = row_there c.args.self.now c.self.inside.rows c.args.t c.self.view_is c.requires.live

pub set_children-requires : goal.set_children-requires
set_children-requires c =
    still_there _ _ c.args.t c.in-Some.parent (with_reservation _) c.set_reservation.ensures
    (row_there c.args.self.now c.self.inside.rows c.args.t c.self.view_is c.requires.live)
    (row_there c.args.self.now c.self.inside.rows c.in-Some.parent c.self.view_is (under_by c.args.self.now c.args.t c.in-Some.parent c.row-row.result c.row-row.ensures c.in-Some.is).live)

pub invariant_of-self : goal.invariant_of-self
invariant_of-self c =
    (raised_under c.args.self.now c.self.inside.rows c.self.invariant c.self.view_is c.args.t c.args.bytes c.requires.live c.row-row.result c.row-row.ensures
    _ _ c.in-Some.parent c.row-children.result c.in-Some.is c.row-children.ensures c.requires.room (c.requires.spare c.in-Some.parent (under_by c.args.self.now c.args.t c.in-Some.parent c.row-row.result c.row-row.ensures c.in-Some.is).parent) c.set_reservation.ensures c.set_children.ensures).sound

pub returns-in-Some : goal.returns-in-Some
returns-in-Some c =
    (raised_under c.args.self.now c.self.inside.rows c.self.invariant c.self.view_is c.args.t c.args.bytes c.requires.live c.row-row.result c.row-row.ensures
    _ _ c.in-Some.parent c.row-children.result c.in-Some.is c.row-children.ensures c.requires.room (c.requires.spare c.in-Some.parent (under_by c.args.self.now c.args.t c.in-Some.parent c.row-row.result c.row-row.ensures c.in-Some.is).parent) c.set_reservation.ensures c.set_children.ensures).state

pub set_reservation-requires-in-None : goal.set_reservation-requires-in-None
set_reservation-requires-in-None c = row_there c.args.self.now c.self.inside.rows c.args.t c.self.view_is c.requires.live

pub invariant_of-self-in-None : goal.invariant_of-self-in-None
invariant_of-self-in-None c =
    (raised_root c.args.self.now c.self.inside.rows c.self.invariant c.self.view_is c.args.t c.args.bytes c.requires.live c.row-row.result c.row-row.ensures
    _ c.in-None.is c.requires.room c.set_reservation-in-None.ensures).sound

pub returns-in-None : goal.returns-in-None
returns-in-None c =
    (raised_root c.args.self.now c.self.inside.rows c.self.invariant c.self.view_is c.args.t c.args.bytes c.requires.live c.row-row.result c.row-row.ensures
    _ c.in-None.is c.requires.room c.set_reservation-in-None.ensures).state
