use Rattle.std.proofs.Common.{◌≡◌, ◌+◌, ◌*◌, ◌<◌, length, List, Option, None, IfErr, OnErr, OnOk, true, sym, subst, arith}
use Rattle.pool_model.specs.declared.entry.Entry.{Entry}
use Rattle.row_codec.specs.declared.values.Value.{Value}
use Rattle.row_codec.specs.Order.{path_order}
use Rattle.store_api.specs.Conditions.{IsBlockCount}
use Rattle.tuple_stream.specs.Families.{slots_in}
use Rattle.tuple_stream.specs.Trails.{EnteredEvents}
use Rattle.partition_stack.specs.Stack.{over}
use Rattle.partition_stack.proofs.Results.{if_err}
use Rattle.group_rows.specs.Partials.{groups_by}
use Rattle.group_op.specs.Emission.{Emitted, EmittedFront}
use Rattle.group_op.specs.Causes.{CameBeside, IsWantBelowOf}
use Rattle.group_op.specs.Finishing.{LeavesWith}
use Rattle.group_op.specs.Laid.{HoldsGroups}
use Rattle.group_op.specs.Making.{MakesBeside}
use Rattle.group_op.specs.Operator.{Holds, Keeps, Operator, entries_in, operator, page_of, slots_for}
use Rattle.group_op.specs.Stored.{grouping_of}
use Rattle.group_op.proofs.Sharing.{both_came}
use Rattle.group_op.proofs.Wants.{some_page}
use Rattle.group_op.proofs.operator.GroupOp.finish.Goals as goal

pub returns-clause-ok : goal.returns-clause-ok
returns-clause-ok g c =
    let h = g.St.Store.holds c.args.store.now in
    let was = g.E.Emit.took c.args.emit.now h in
    let now = g.E.Emit.took c.finish_op.new.emit (g.St.Store.holds c.finish_op.new.store) in
    subst (λ (op : Operator). OnOk c.finish_op.result ((fed : List (List Value)) → Holds fed op h (g.St.Store.signs c.args.store.now) → h.told ≡ true → Emitted op.shape was now (groups_by path_order (grouping_of op.shape) fed)))
    c.self.view_is c.finish_op.ensures.ok

pub returns-clause-err : goal.returns-clause-err
returns-clause-err g c =
    let h = g.St.Store.holds c.args.store.now in
    let was = g.E.Emit.took c.args.emit.now h in
    let now = g.E.Emit.took c.finish_op.new.emit (g.St.Store.holds c.finish_op.new.store) in
    subst (λ (op : Operator). OnErr c.finish_op.result ((fed : List (List Value)) → Holds fed op h (g.St.Store.signs c.args.store.now) → h.told ≡ true → EmittedFront op.shape was now (groups_by path_order (grouping_of op.shape) fed)))
    c.self.view_is c.finish_op.ensures.err

pub returns-clause-kept : goal.returns-clause-kept
returns-clause-kept g c =
    let h = g.St.Store.holds c.args.store.now in
    let trail = (g.St.Store.signs c.finish_op.new.store).trail in
    let now = over c.finish_op.new.parts (g.St.Store.holds c.finish_op.new.store) (g.St.Store.signs c.finish_op.new.store) in
    subst (λ (op : Operator). OnOk c.finish_op.result ((start : Option (List Entry)) (fed : List (List Value)) → Keeps start fed op h (g.St.Store.signs c.args.store.now) → EnteredEvents (HoldsGroups op.shape (page_of op h) fed now) start trail))
    c.self.view_is c.finish_op.ensures.kept

pub returns-clause-cause : goal.returns-clause-cause
returns-clause-cause g c =
    let h = g.St.Store.holds c.args.store.now in
    let s = g.St.Store.signs c.args.store.now in
    subst (λ (op : Operator). IfErr c.finish_op.result (CameBeside op.parts.page_blocks (slots_in (over op.parts h s)) (g.E.Emit.client c.args.emit.now) (g.E.Emit.faults c.args.emit.now) (g.E.Emit.faults c.finish_op.new.emit) s (g.St.Store.signs c.finish_op.new.store))) c.self.view_is
    (both_came c.finish_op.result _ _ _ _ _ _ _ c.finish_op.ensures.cause c.finish_op.ensures.want)

pub returns-clause-leaves : goal.returns-clause-leaves
returns-clause-leaves g c =
    let h = g.St.Store.holds c.args.store.now in
    let new = g.St.Store.holds c.finish_op.new.store in
    let s = g.St.Store.signs c.args.store.now in
    subst (λ (op : Operator). LeavesWith op.client.tracker (g.E.Emit.client c.args.emit.now) (g.E.Emit.slots c.args.emit.now h) (g.E.Emit.slots c.finish_op.new.emit new) (over op.parts h s) (over c.finish_op.new.parts new (g.St.Store.signs c.finish_op.new.store))) c.self.view_is
    c.finish_op.ensures.leaves

pub returns-clause-made : goal.returns-clause-made
returns-clause-made g c =
    let h = g.St.Store.holds c.args.store.now in
    let s = g.St.Store.signs c.args.store.now in
    subst (λ (op : Operator). (fed : List (List Value)) → Holds fed op h s → h.told ≡ true → MakesBeside (15 * length fed + length (entries_in op.table)) (g.E.Emit.creates c.args.emit.now) (g.E.Emit.creates c.finish_op.new.emit) s (g.St.Store.signs c.finish_op.new.store)) c.self.view_is
    c.finish_op.ensures.made

pub returns-clause-enough : goal.returns-clause-enough
returns-clause-enough g c =
    let h = g.St.Store.holds c.args.store.now in
    let s = g.St.Store.signs c.args.store.now in
    let least = c.block_len-len.ensures.least in
    let value = c.block_len-len.ensures.value in
    let inside : Operator = operator c.self.inside.client c.self.inside.shape c.self.inside.parts c.self.inside.table in
    let some : 0 < page_of inside h = some_page c.self.inside.parts.page_blocks h (subst (λ (o : Operator). IsBlockCount o.parts.page_blocks) (sym c.self.view_is) c.requires.op.sized) (omega (arith, least, value)) in
    subst (λ (o : Operator). g.E.Emit.client c.args.emit.now ≡ None → IfErr c.finish_op.result (λ e. (fed : List (List Value)) → Holds fed o h s → h.told ≡ true → IsWantBelowOf (slots_for 544 o h fed) (slots_in (over o.parts h s)) e)) c.self.view_is
    (λ none. if_err c.finish_op.result (λ e want fed holds told. want fed holds told some) (c.finish_op.ensures.enough none))
