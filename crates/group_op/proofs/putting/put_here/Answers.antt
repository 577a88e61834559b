use Rattle.std.proofs.Common.{◌≡◌, ◌≤◌, ℕ, [], length, refl, sym, subst}
use Rattle.tuple_stream.proofs.FamilyWords.{feeds_none}
use Rattle.group_op.specs.Held.{State, page_len, state, streams_of}
use Rattle.group_op.specs.Stored.{key_at}
use Rattle.group_op.proofs.Deals.{deals_fed}
use Rattle.group_op.proofs.Entering.{entries_joined, entries_new, here_found, here_new, lacks_same, works_len, works_none}
use Rattle.group_op.proofs.Keeping.{works_nodes}
use Rattle.group_op.proofs.Finding.{entry_row}
use Rattle.group_op.proofs.Growth.{grown_none}
use Rattle.group_op.proofs.RowForms.{partial_is_framed}
use Rattle.group_op.proofs.putting.put_here.Goals as goal

pub add_numbers-requires-clause-entry : goal.add_numbers-requires-clause-entry
add_numbers-requires-clause-entry g c =
    entry_row c.args.shape.now _ c.in-Some.node c.args.table.now c.requires.entries c.in-Some.ensures.node

pub returns-in-Some-clause-put : goal.returns-in-Some-clause-put
returns-in-Some-clause-put g c = λ yes.
    rw c.add_numbers.ensures
    (here_found c.law_row_back.ensures.law c.args.shape.now _ c.in-Some.node c.args.table.now c.args.row.now c.requires.shape c.requires.entries c.in-Some.ensures.node c.requires.row c.in-Some.ensures.key
    c.args.c.now.tracker c.args.parts.now (g.St.Store.holds c.args.store.now) (g.St.Store.signs c.args.store.now) c.requires.held.owns.shaped)

pub returns-in-Some-clause-works : goal.returns-in-Some-clause-works
returns-in-Some-clause-works g c =
    rw c.add_numbers.ensures
    (works_nodes c.args.c.now.tracker c.args.shape.now _ _ c.args.table.now c.args.parts.now (g.St.Store.holds c.args.store.now) (g.St.Store.signs c.args.store.now)
    (works_none c.args.c.now.tracker c.args.shape.now c.args.table.now c.args.parts.now (g.St.Store.holds c.args.store.now) (g.St.Store.signs c.args.store.now) c.requires.held c.requires.entries)
    (entries_joined c.law_row_back.ensures.law c.args.shape.now _ c.in-Some.node c.args.table.now c.args.row.now c.requires.shape c.requires.entries c.in-Some.ensures.node c.requires.row c.in-Some.ensures.key))

pub add_entry-requires-clause-row : goal.add_entry-requires-clause-row
add_entry-requires-clause-row g c = partial_is_framed c.args.shape.now c.args.row.now c.requires.row

pub returns-then-has_room-clause-put : goal.returns-then-has_room-clause-put
returns-then-has_room-clause-put g c = λ yes.
    let a : State = state c.args.table.now c.args.parts.now (g.St.Store.holds c.args.store.now) (g.St.Store.signs c.args.store.now) in
    rw c.add_entry.ensures
    (here_new c.args.shape.now c.args.hash c.args.row.now a c.args.table.now c.args.parts.now (g.St.Store.holds c.args.store.now) (g.St.Store.signs c.args.store.now) refl
    (deals_fed c.args.c.now.tracker (λ i. []) (streams_of a) (streams_of a) (feeds_none c.args.c.now.tracker (streams_of a) c.requires.held.owns.shaped)) c.in_default.ensures.none)

pub returns-then-has_room-clause-works : goal.returns-then-has_room-clause-works
returns-then-has_room-clause-works g c =
    rw c.add_entry.ensures
    (works_nodes c.args.c.now.tracker c.args.shape.now _ _ c.args.table.now c.args.parts.now (g.St.Store.holds c.args.store.now) (g.St.Store.signs c.args.store.now)
    (works_none c.args.c.now.tracker c.args.shape.now c.args.table.now c.args.parts.now (g.St.Store.holds c.args.store.now) (g.St.Store.signs c.args.store.now) c.requires.held c.requires.entries)
    (entries_new c.args.shape.now _ c.args.hash c.args.row.now c.args.table.now c.requires.entries c.requires.row c.requires.short c.requires.hash))

pub add_entry-requires-2-clause-row : goal.add_entry-requires-2-clause-row
add_entry-requires-2-clause-row g c = partial_is_framed c.args.shape.now c.args.row.now c.requires.row

pub returns-clause-put : goal.returns-clause-put
returns-clause-put g c = λ yes.
    let a : State = state c.args.table.now c.args.parts.now (g.St.Store.holds c.args.store.now) (g.St.Store.signs c.args.store.now) in
    rw c.add_entry-2.ensures
    (here_new c.args.shape.now c.args.hash c.args.row.now a c.grow.new.table c.args.parts.now (g.St.Store.holds c.grow.new.store) (g.St.Store.signs c.grow.new.store) c.grow.ensures.rows c.grow.ensures.deals c.in_default.ensures.none)

pub returns-clause-works : goal.returns-clause-works
returns-clause-works g c =
    let works = c.grow.ensures.works in
    let len : page_len (state c.grow.new.table c.args.parts.now (g.St.Store.holds c.grow.new.store) (g.St.Store.signs c.grow.new.store)) ≡ page_len (state c.args.table.now c.args.parts.now (g.St.Store.holds c.args.store.now) (g.St.Store.signs c.args.store.now)) = works_len c.args.c.now.tracker c.args.shape.now _ _ works in
    rw c.add_entry-2.ensures
    (works_nodes c.args.c.now.tracker c.args.shape.now _ _ c.grow.new.table c.args.parts.now (g.St.Store.holds c.grow.new.store) (g.St.Store.signs c.grow.new.store) works
    (entries_new c.args.shape.now _ c.args.hash c.args.row.now c.grow.new.table works.entries c.requires.row (subst (λ (n : ℕ). length c.args.row.now ≤ n) (sym len) c.requires.short) c.requires.hash))

pub returns-then-not-has_room-clause-lacks : goal.returns-then-not-has_room-clause-lacks
returns-then-not-has_room-clause-lacks g c = λ not.
    lacks_same c.args.shape.now (key_at c.args.shape.now c.args.row.now) c.args.table.now c.grow.new.table c.grow.ensures.rows c.in_default.ensures.none

pub returns-then-not-may_grow-clause-grown : goal.returns-then-not-may_grow-clause-grown
returns-then-not-may_grow-clause-grown g c = λ not.
    grown_none c.args.c.now.tracker c.args.shape.now c.args.table.now c.args.parts.now (g.St.Store.holds c.args.store.now) (g.St.Store.signs c.args.store.now) c.requires.held c.requires.entries

pub returns-then-not-may_grow-clause-works : goal.returns-then-not-may_grow-clause-works
returns-then-not-may_grow-clause-works g c =
    works_none c.args.c.now.tracker c.args.shape.now c.args.table.now c.args.parts.now (g.St.Store.holds c.args.store.now) (g.St.Store.signs c.args.store.now) c.requires.held c.requires.entries
