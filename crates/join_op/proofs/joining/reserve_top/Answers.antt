use Rattle.join_op.proofs.Reserving.{Reserves, reserved_first, reserved_leaves, reserved_made, reserved_op, reserved_shows, reserved_slots, reserves}
use Rattle.partition_stack.proofs.Making.{few_none}
use Rattle.join_op.proofs.joining.reserve_top.Goals as goal

pub returns-clause-op : goal.returns-clause-op
returns-clause-op g c =
    let h = g.St.Store.holds c.args.store.now in
    let h1 = g.St.Store.holds c.reserve_to_fit-reserved.new.self in
    let s = g.St.Store.signs c.args.store.now in
    let s1 = g.St.Store.signs c.reserve_to_fit-reserved.new.self in
    let more : Reserves c.args.c.now.tracker h h1 = reserves c.reserve_to_fit-reserved.result c.args.c.now.tracker _ h h1 s s1 c.requires.op.client c.reserve_to_fit-reserved.ensures.ok c.reserve_to_fit-reserved.ensures.err in
    reserved_op c.args.c.now c.args._shape.now c.args.left.now c.args.right.now h h1 s s1 c.requires.op more

pub returns-clause-shows : goal.returns-clause-shows
returns-clause-shows g c =
    let h = g.St.Store.holds c.args.store.now in
    let h1 = g.St.Store.holds c.reserve_to_fit-reserved.new.self in
    let s = g.St.Store.signs c.args.store.now in
    let s1 = g.St.Store.signs c.reserve_to_fit-reserved.new.self in
    let more : Reserves c.args.c.now.tracker h h1 = reserves c.reserve_to_fit-reserved.result c.args.c.now.tracker _ h h1 s s1 c.requires.op.client c.reserve_to_fit-reserved.ensures.ok c.reserve_to_fit-reserved.ensures.err in
    reserved_shows c.args.c.now c.args._shape.now c.args.left.now c.args.right.now h h1 s s1 c.requires.op more

pub returns-clause-leaves : goal.returns-clause-leaves
returns-clause-leaves g c =
    let h = g.St.Store.holds c.args.store.now in
    let h1 = g.St.Store.holds c.reserve_to_fit-reserved.new.self in
    let s = g.St.Store.signs c.args.store.now in
    let s1 = g.St.Store.signs c.reserve_to_fit-reserved.new.self in
    let more : Reserves c.args.c.now.tracker h h1 = reserves c.reserve_to_fit-reserved.result c.args.c.now.tracker _ h h1 s s1 c.requires.op.client c.reserve_to_fit-reserved.ensures.ok c.reserve_to_fit-reserved.ensures.err in
    reserved_leaves c.args.c.now.tracker h h1 s s1 more c.reserve_to_fit-reserved.ensures.grows

pub returns-clause-first : goal.returns-clause-first
returns-clause-first g c =
    let h = g.St.Store.holds c.args.store.now in
    let h1 = g.St.Store.holds c.reserve_to_fit-reserved.new.self in
    let s = g.St.Store.signs c.args.store.now in
    let s1 = g.St.Store.signs c.reserve_to_fit-reserved.new.self in
    reserved_first c.reserve_to_fit-reserved.result c.args.c.now.tracker _ _ h h1 s s1 c.reserve_to_fit-reserved.ensures.entries c.reserve_to_fit-reserved.ensures.err

pub returns-clause-made : goal.returns-clause-made
returns-clause-made g c =
    let h = g.St.Store.holds c.args.store.now in
    let h1 = g.St.Store.holds c.reserve_to_fit-reserved.new.self in
    let s = g.St.Store.signs c.args.store.now in
    let s1 = g.St.Store.signs c.reserve_to_fit-reserved.new.self in
    reserved_made c.reserve_to_fit-reserved.result c.args.c.now.tracker _ _ h h1 s s1 c.reserve_to_fit-reserved.ensures.entries c.reserve_to_fit-reserved.ensures.err

pub returns-then-not-have_rows-clause-made : goal.returns-then-not-have_rows-clause-made
returns-then-not-have_rows-clause-made g c = few_none (g.St.Store.signs c.args.store.now)

pub returns-in_default-clause-made : goal.returns-in_default-clause-made
returns-in_default-clause-made g c = few_none (g.St.Store.signs c.args.store.now)

pub returns-clause-slots : goal.returns-clause-slots
returns-clause-slots g c =
    let h = g.St.Store.holds c.args.store.now in
    let h1 = g.St.Store.holds c.reserve_to_fit-reserved.new.self in
    let s = g.St.Store.signs c.args.store.now in
    let s1 = g.St.Store.signs c.reserve_to_fit-reserved.new.self in
    let more : Reserves c.args.c.now.tracker h h1 = reserves c.reserve_to_fit-reserved.result c.args.c.now.tracker _ h h1 s s1 c.requires.op.client c.reserve_to_fit-reserved.ensures.ok c.reserve_to_fit-reserved.ensures.err in
    reserved_slots c.args.c.now.tracker h h1 s s1 more c.args.left.now c.args.right.now
