use Rattle.std.proofs.Common.{◌+◌, ◌*◌, ◌∙◌, length, sym, arith}
use Rattle.partition_stack.specs.Stack.{over}
use Rattle.partition_stack.proofs.Results.{if_err, on_ok}
use Rattle.group_op.proofs.Laying.{none_kept, some_kept}
use Rattle.group_op.specs.Operator.{entries_in}
use Rattle.partition_stack.proofs.Making.{counts_less, counts_none}
use Rattle.group_op.proofs.Besides.{left_none}
use Rattle.group_op.proofs.Makings.{finished_made}
use Rattle.group_op.proofs.Wants.{finished_below}
use Rattle.group_op.proofs.handing.finish_op.Goals as goal

pub returns-in_default-clause-kept : goal.returns-in_default-clause-kept
returns-in_default-clause-kept g c = λ start rows keeps.
    none_kept c.args.c.now c.args.shape.now start rows c.args.parts.now c.args.table.now (g.St.Store.holds c.args.store.now) (g.St.Store.signs c.args.store.now) (sym c.take.ensures.value ∙ c.in_default.is) c.requires.op c.requires.feeding.sixteen keeps

pub returns-in_default-replace-clause-kept : goal.returns-in_default-replace-clause-kept
returns-in_default-replace-clause-kept g c =
    on_ok c.finish_parts-result.result
    (λ left start rows keeps.
    some_kept c.args.c.now c.args.shape.now start rows c.args.parts.now c.args.table.now c.in-Some.own (g.St.Store.holds c.args.store.now) (g.St.Store.signs c.args.store.now) (over c.finish_parts-result.new.parts (g.St.Store.holds c.finish_parts-result.new.store) (g.St.Store.signs c.finish_parts-result.new.store)) (g.St.Store.signs c.finish_parts-result.new.store).trail
    (sym c.take.ensures.value ∙ c.in-Some.is) c.requires.op left keeps)
    c.finish_parts-result.ensures.left

pub returns-in_default-clause-leaves : goal.returns-in_default-clause-leaves
returns-in_default-clause-leaves g c = left_none _ _ _ _

pub returns-in_default-replace-clause-leaves : goal.returns-in_default-replace-clause-leaves
returns-in_default-replace-clause-leaves g c = record { others = c.finish_parts-result.ensures.serves.leaves; slots = c.finish_parts-result.ensures.serves.slots }

pub returns-in_default-clause-made : goal.returns-in_default-clause-made
returns-in_default-clause-made g c = λ rows holds told.
    counts_less 0 (15 * length rows + length (entries_in c.args.table.now)) (g.E.Emit.creates c.args.emit.now) (g.E.Emit.creates c.args.emit.now) (g.St.Store.signs c.args.store.now) (g.St.Store.signs c.args.store.now) (omega arith) (counts_none (g.E.Emit.creates c.args.emit.now) (g.St.Store.signs c.args.store.now))

pub returns-in_default-replace-clause-made : goal.returns-in_default-replace-clause-made
returns-in_default-replace-clause-made g c = λ rows holds told.
    finished_made (g.E.Emit.creates c.args.emit.now) (g.E.Emit.creates c.finish_parts-result.new.emit) c.args.c.now c.args.shape.now rows c.args.parts.now c.args.table.now c.in-Some.own (g.St.Store.holds c.args.store.now) (g.St.Store.signs c.args.store.now) (g.St.Store.signs c.finish_parts-result.new.store) (sym c.take.ensures.value ∙ c.in-Some.is) c.finish_parts-result.ensures.made holds told

pub returns-in_default-replace-clause-enough : goal.returns-in_default-replace-clause-enough
returns-in_default-replace-clause-enough g c = λ none.
    if_err c.finish_parts-result.result
    (λ e want rows holds told some.
    finished_below c.args.c.now c.args.shape.now rows c.args.parts.now c.args.table.now c.in-Some.own (g.St.Store.holds c.args.store.now) (g.St.Store.signs c.args.store.now) e (sym c.take.ensures.value ∙ c.in-Some.is) want holds told some)
    (c.finish_parts-result.ensures.enough none)
