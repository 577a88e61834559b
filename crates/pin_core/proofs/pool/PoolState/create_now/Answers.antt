use Rattle.std.proofs.Common.{[], ap, sym, ◌∙◌, subst}
use Rattle.std.proofs.lemmas.Bool.{false≢true}
use Rattle.page_table.specs.declared.page_id.PageId.{PageId}
use Rattle.pin_core.specs.calls.Needs.{id_in}
use Rattle.pin_core.specs.Standing.{Enters}
use Rattle.pin_core.specs.calls.Coming.{create_entries}
use Rattle.pin_core.proofs.Holding.{holder_covered, gone_needed}
use Rattle.pin_core.proofs.Created.{create_is, token_made}
use Rattle.pin_core.proofs.pool.PoolState.create_now.Goals as goal

pub make_room-requires-clause-covered : goal.make_room-requires-clause-covered
make_room-requires-clause-covered g c = holder_covered c.self.inside.parts c.args.self.now c.args.c.now c.room.result c.args.shell c.self.view_is c.room.ensures c.self.invariant c.laws.ensures c.requires.can

pub create-buf-requires-clause-ready : goal.create-buf-requires-clause-ready
create-buf-requires-clause-ready g c =
    (create_is c.self.inside.parts c.args.self.now c.args.c.now c.session.result c.tracker.result c.room.result c.args.shell c.self.view_is c.session.ensures c.tracker.ensures c.room.ensures c.self.invariant c.laws.ensures c.requires.can
    (λ spent. false≢true (sym c.if-spent.false ∙ c.spent.ensures.1 spent))).ready c.make_room.new.self c.make_room.ensures.parts c.make_room.ensures.enough

pub invariant_of-self : goal.invariant_of-self
invariant_of-self g c =
    ((create_is c.self.inside.parts c.args.self.now c.args.c.now c.session.result c.tracker.result c.room.result c.args.shell c.self.view_is c.session.ensures c.tracker.ensures c.room.ensures c.self.invariant c.laws.ensures c.requires.can
    (λ spent. false≢true (sym c.if-spent.false ∙ c.spent.ensures.1 spent))).ends c.make_room.new.self c.make_room.ensures.parts c.make_room.ensures.enough
    c.create-buf.result.0 (record { name = c.create-buf.ensures.name; vacant = c.create-buf.ensures.vacant; in_range = c.create-buf.ensures.in_range }) c.create-buf.ensures.left
    c.create-buf.new.self c.create-buf.ensures.parts).kept

pub returns-clause-enters : goal.returns-clause-enters
returns-clause-enters g c =
    subst (λ (id : PageId). Enters g.D.Slot (create_entries c.args.c.now id c.args.shell c.args.self.now) [] [] c.args.self.now c.create-buf.new.self) (sym (ap id_in c.of.ensures))
    (((create_is c.self.inside.parts c.args.self.now c.args.c.now c.session.result c.tracker.result c.room.result c.args.shell c.self.view_is c.session.ensures c.tracker.ensures c.room.ensures c.self.invariant c.laws.ensures c.requires.can
    (λ spent. false≢true (sym c.if-spent.false ∙ c.spent.ensures.1 spent))).ends c.make_room.new.self c.make_room.ensures.parts c.make_room.ensures.enough
    c.create-buf.result.0 (record { name = c.create-buf.ensures.name; vacant = c.create-buf.ensures.vacant; in_range = c.create-buf.ensures.in_range }) c.create-buf.ensures.left
    c.create-buf.new.self c.create-buf.ensures.parts).enters g.D.Slot)

pub returns-clause-page : goal.returns-clause-page
returns-clause-page g c =
    token_made c.of.result c.create-buf.result.0 c.tracker-2.result c.args.c.now.tracker c.args.self.now.pages.next_name c.of.ensures c.tracker-2.ensures
    ((create_is c.self.inside.parts c.args.self.now c.args.c.now c.session.result c.tracker.result c.room.result c.args.shell c.self.view_is c.session.ensures c.tracker.ensures c.room.ensures c.self.invariant c.laws.ensures c.requires.can
    (λ spent. false≢true (sym c.if-spent.false ∙ c.spent.ensures.1 spent))).ends c.make_room.new.self c.make_room.ensures.parts c.make_room.ensures.enough
    c.create-buf.result.0 (record { name = c.create-buf.ensures.name; vacant = c.create-buf.ensures.vacant; in_range = c.create-buf.ensures.in_range }) c.create-buf.ensures.left
    c.create-buf.new.self c.create-buf.ensures.parts).name

pub returns-clause-buffer : goal.returns-clause-buffer
returns-clause-buffer g c =
    (create_is c.self.inside.parts c.args.self.now c.args.c.now c.session.result c.tracker.result c.room.result c.args.shell c.self.view_is c.session.ensures c.tracker.ensures c.room.ensures c.self.invariant c.laws.ensures c.requires.can
    (λ spent. false≢true (sym c.if-spent.false ∙ c.spent.ensures.1 spent))).zeroed c.make_room.new.self c.make_room.ensures.parts c.create-buf.result.1 c.create-buf.ensures.buffer

pub returns-clause-goes : goal.returns-clause-goes
returns-clause-goes g c = gone_needed c.self.inside.parts c.args.self.now c.self.view_is c.self.invariant c.laws.ensures c.room.result c.args.shell c.room.ensures c.make_room.new.self c.make_room.ensures.parts c.make_room.ensures.enough
