use Rattle.std.proofs.Common.{◌∙◌, sym, subst, arith}
use Rattle.tuple_stream.specs.PageRows.{IsOneRow}
use Rattle.join_op.proofs.Calls.{calls_beside, room_first}
use Rattle.partition_stack.specs.Stack.{over}
use Rattle.partition_stack.proofs.Making.{few_less, few_none, laying_makes}
use Rattle.partition_stack.proofs.Nothing.{feeds_nothing}
use Rattle.join_op.proofs.feeding.put_row.Goals as goal

pub returns-in_default-clause-went : goal.returns-in_default-clause-went
returns-in_default-clause-went g c = feeds_nothing c.args.c.now.tracker _ _ c.requires.may.own.left_shaped

pub append-requires-clause-room : goal.append-requires-clause-room
append-requires-clause-room g c = (0, omega arith, room_first c.args.c.now c.args.parts.now c.args._other.now (g.St.Store.holds c.args.store.now) (g.St.Store.signs c.args.store.now) c.requires.may c.requires.sixteen)

pub append-requires-clause-row : goal.append-requires-clause-row
append-requires-clause-row g c = subst IsOneRow (sym (c.deref-2.ensures.value ∙ c.in-Ok.ensures.row)) c.in-Ok.ensures.one

pub returns-clause-beside : goal.returns-clause-beside
returns-clause-beside g c =
    calls_beside c.args.c.now.tracker c.args.parts.now c.append.new.self c.args._other.now (g.St.Store.holds c.args.store.now) (g.St.Store.holds c.append.new.store) (g.St.Store.signs c.args.store.now) (g.St.Store.signs c.append.new.store)
    c.requires.may.own c.append.ensures.went.steps c.append.ensures.changes.blocks c.append.ensures.changes.levels

pub returns-clause-few : goal.returns-clause-few
returns-clause-few g c =
    laying_makes 1 c.args.c.now.tracker (over c.args.parts.now (g.St.Store.holds c.args.store.now) (g.St.Store.signs c.args.store.now)) (over c.append.new.self (g.St.Store.holds c.append.new.store) (g.St.Store.signs c.append.new.store)) c.append.ensures.few c.append.ensures.went.steps

pub returns-in_default-clause-few : goal.returns-in_default-clause-few
returns-in_default-clause-few g c = few_less 0 1 (g.St.Store.signs c.args.store.now) (g.St.Store.signs c.args.store.now) (omega arith) (few_none (g.St.Store.signs c.args.store.now))
