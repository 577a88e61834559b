use Rattle.std.proofs.Common.{◌∙◌, sym, subst, arith}
use Rattle.tuple_stream.specs.PageRows.{IsOneRow}
use Rattle.partition_stack.specs.Stack.{over}
use Rattle.partition_stack.proofs.Making.{few_less, few_none, laying_makes}
use Rattle.join_op.proofs.Calls.{calls_beside}
use Rattle.join_op.proofs.Dealing.{fed_still}
use Rattle.join_op.proofs.Fans.{room_of_fan}
use Rattle.join_op.proofs.OneRow.{read_is_one}
use Rattle.join_op.proofs.dividing.send.Goals as goal

pub overflow_add-place : goal.overflow_add-place
overflow_add-place g c = let low = c.requires.fan.low in omega (arith, low)

pub overflow_add-place-2 : goal.overflow_add-place-2
overflow_add-place-2 g c = let low = c.requires.fan.low in omega (arith, low)

pub append-requires-clause-room : goal.append-requires-clause-room
append-requires-clause-room g c = (c.args.at, omega arith, room_of_fan c.args.c.now c.args.level c.args.at c.args.parts.now c.args._other.now (g.St.Store.holds c.args.store.now) (g.St.Store.signs c.args.store.now) c.requires.may c.requires.fan)

pub append-requires-clause-row : goal.append-requires-clause-row
append-requires-clause-row g c = subst IsOneRow (c.deref.ensures.value ∙ sym c.deref-3.ensures.value) (read_is_one c.args.kinds.now c.deref.result.now (c.in-Ok-true.ensures.row c.in-Ok-true.field-0-test))

pub returns-clause-beside : goal.returns-clause-beside
returns-clause-beside g c =
    calls_beside c.args.c.now.tracker c.args.parts.now c.append.new.self c.args._other.now (g.St.Store.holds c.args.store.now) (g.St.Store.holds c.append.new.store) (g.St.Store.signs c.args.store.now) (g.St.Store.signs c.append.new.store)
    c.requires.may.own c.append.ensures.went.steps c.append.ensures.changes.blocks c.append.ensures.changes.levels

pub returns-clause-made : goal.returns-clause-made
returns-clause-made g c =
    laying_makes 1 c.args.c.now.tracker (over c.args.parts.now (g.St.Store.holds c.args.store.now) (g.St.Store.signs c.args.store.now)) (over c.append.new.self (g.St.Store.holds c.append.new.store) (g.St.Store.signs c.append.new.store)) c.append.ensures.few c.append.ensures.went.steps

pub returns-in_default-clause-made : goal.returns-in_default-clause-made
returns-in_default-clause-made g c = few_less 0 1 (g.St.Store.signs c.args.store.now) (g.St.Store.signs c.args.store.now) (omega arith) (few_none (g.St.Store.signs c.args.store.now))

pub returns-clause-stays : goal.returns-clause-stays
returns-clause-stays g c =
    fed_still c.append.result c.args.c.now.tracker _ _ (over c.args.parts.now (g.St.Store.holds c.args.store.now) (g.St.Store.signs c.args.store.now)) (over c.append.new.self (g.St.Store.holds c.append.new.store) (g.St.Store.signs c.append.new.store)) c.append.ensures.went
