use Rattle.std.proofs.Common.{rules, ◌≡◌, Err, ◌∙◌, ◌+◌, ◌*◌, ◌++◌, [], ℕ, List, length, sym, subst, arith, append-nil}
use Rattle.store_api.specs.declared.op_err.OpErr.TheVariants.{Pool}
use Rattle.group_op.specs.Emission.{Emitted, EmittedFront}
use Rattle.group_op.specs.Finished.{ShowsFirst, groups_of_all}
use Rattle.partition_stack.specs.Stack.{over}
use Rattle.group_op.specs.Held.{State, rows_of, state}
use Rattle.tuple_stream.specs.FamilyCalls.{shares}
use Rattle.group_op.proofs.Advancing.{came_later, emitted_same, front_same}
use Rattle.group_op.proofs.Besides.{own_same, serves_own, serves_then, stands_own}
use Rattle.partition_stack.proofs.Emitters.{stands_then}
use Rattle.group_op.proofs.Begun.{low_levels}
use Rattle.group_op.specs.Causes.{IsWant}
use Rattle.group_op.proofs.Laying.{left_first}
use Rattle.tuple_stream.specs.Families.{slots_in}
use Rattle.group_op.proofs.Sharing.{want_as}
use Rattle.group_op.proofs.Emitting.{emitted_behind, front_behind}
use Rattle.group_op.proofs.Wants.{among_more_of, among_since}
use Rattle.partition_stack.proofs.Results.{if_err, on_err, on_ok}
use Rattle.partition_stack.specs.Making.{owed}
use Rattle.partition_stack.proofs.Making.{counts_both, counts_less, few_counts}
use Rattle.group_op.proofs.handing.finish_parts.Goals as goal

pub returns-in_err-settle-clause-err : goal.returns-in_err-settle-clause-err
returns-in_err-settle-clause-err g c =
    let front : (rows : ℕ → List (List ℕ)) → ShowsFirst c.args.shape.now rows (state c.args.table.now c.args.parts.now (g.St.Store.holds c.args.store.now) (g.St.Store.signs c.args.store.now)) → EmittedFront c.args.shape.now (g.E.Emit.took c.args.emit.now (g.St.Store.holds c.args.store.now)) (g.E.Emit.took c.args.emit.now (g.St.Store.holds c.settle.new.store)) (groups_of_all c.args.shape.now rows (state c.args.table.now c.args.parts.now (g.St.Store.holds c.args.store.now) (g.St.Store.signs c.args.store.now))) =
    λ rows shows. front_same c.args.shape.now (g.E.Emit.took c.args.emit.now (g.St.Store.holds c.args.store.now)) (g.E.Emit.took c.args.emit.now (g.St.Store.holds c.settle.new.store)) _ (λ taken took. g.met.E.Emit.asks_own c.args.emit.now (g.St.Store.holds c.args.store.now) (g.St.Store.holds c.settle.new.store) taken (own_same c.args.c.now.tracker _ (state c.args.table.now c.args.parts.now (g.St.Store.holds c.args.store.now) (g.St.Store.signs c.args.store.now)) (state c.settle.new.table c.settle.new.parts (g.St.Store.holds c.settle.new.store) (g.St.Store.signs c.settle.new.store)) c.requires.emitter.apart c.settle.ensures.serves.leaves) took) in
    search (rules, front)

pub returns-in_err-settle-clause-serves : goal.returns-in_err-settle-clause-serves
returns-in_err-settle-clause-serves g c = serves_own _ _ _ _ _ _ _ (g.met.E.Emit.slots_own c.args.emit.now (g.St.Store.holds c.args.store.now) (g.St.Store.holds c.settle.new.store) (own_same c.args.c.now.tracker _ (state c.args.table.now c.args.parts.now (g.St.Store.holds c.args.store.now) (g.St.Store.signs c.args.store.now)) (state c.settle.new.table c.settle.new.parts (g.St.Store.holds c.settle.new.store) (g.St.Store.signs c.settle.new.store)) c.requires.emitter.apart c.settle.ensures.serves.leaves)) c.settle.ensures.serves

pub returns-in_err-settle-clause-emitter : goal.returns-in_err-settle-clause-emitter
returns-in_err-settle-clause-emitter g c = stands_own _ _ _ _ _ c.args.c.now.tracker (state c.args.table.now c.args.parts.now (g.St.Store.holds c.args.store.now) (g.St.Store.signs c.args.store.now)) (state c.settle.new.table c.settle.new.parts (g.St.Store.holds c.settle.new.store) (g.St.Store.signs c.settle.new.store)) c.requires.emitter c.settle.ensures.serves.leaves (λ taken took. g.met.E.Emit.asks_own c.args.emit.now (g.St.Store.holds c.args.store.now) (g.St.Store.holds c.settle.new.store) taken (own_same c.args.c.now.tracker _ (state c.args.table.now c.args.parts.now (g.St.Store.holds c.args.store.now) (g.St.Store.signs c.args.store.now)) (state c.settle.new.table c.settle.new.parts (g.St.Store.holds c.settle.new.store) (g.St.Store.signs c.settle.new.store)) c.requires.emitter.apart c.settle.ensures.serves.leaves) took)

pub empty_parts-requires-clause-stands : goal.empty_parts-requires-clause-stands
empty_parts-requires-clause-stands g c =
    (c.requires.stands.0, g.met.E.Emit.asks_own c.args.emit.now (g.St.Store.holds c.args.store.now) (g.St.Store.holds c.settle.new.store) c.requires.stands.0 (own_same c.args.c.now.tracker _ (state c.args.table.now c.args.parts.now (g.St.Store.holds c.args.store.now) (g.St.Store.signs c.args.store.now)) (state c.settle.new.table c.settle.new.parts (g.St.Store.holds c.settle.new.store) (g.St.Store.signs c.settle.new.store)) c.requires.emitter.apart c.settle.ensures.serves.leaves) c.requires.stands.1)

pub returns-clause-ok : goal.returns-clause-ok
returns-clause-ok g c =
    on_ok c.empty_parts.result
    (λ emitted rows shows.
    let settled = c.in_ok-settle.ensures.ok rows shows in
    subst (Emitted c.args.shape.now (g.E.Emit.took c.args.emit.now (g.St.Store.holds c.args.store.now)) (g.E.Emit.took c.empty_parts.new.emit (g.St.Store.holds c.empty_parts.new.store))) (sym settled.same) (emitted_behind c.args.shape.now (g.E.Emit.took c.args.emit.now (g.St.Store.holds c.args.store.now)) (g.E.Emit.took c.args.emit.now (g.St.Store.holds c.settle.new.store)) (g.E.Emit.took c.empty_parts.new.emit (g.St.Store.holds c.empty_parts.new.store)) [] (emitted_same c.args.shape.now (g.E.Emit.took c.args.emit.now (g.St.Store.holds c.args.store.now)) (g.E.Emit.took c.args.emit.now (g.St.Store.holds c.settle.new.store)) (λ taken took. g.met.E.Emit.asks_own c.args.emit.now (g.St.Store.holds c.args.store.now) (g.St.Store.holds c.settle.new.store) taken (own_same c.args.c.now.tracker _ (state c.args.table.now c.args.parts.now (g.St.Store.holds c.args.store.now) (g.St.Store.signs c.args.store.now)) (state c.settle.new.table c.settle.new.parts (g.St.Store.holds c.settle.new.store) (g.St.Store.signs c.settle.new.store)) c.requires.emitter.apart c.settle.ensures.serves.leaves) took)) _ (emitted settled.left settled.stacked)))
    c.empty_parts.ensures.ok

pub returns-clause-err : goal.returns-clause-err
returns-clause-err g c =
    on_err c.empty_parts.result
    (λ front rows shows.
    let settled = c.in_ok-settle.ensures.ok rows shows in
    front_behind c.args.shape.now (g.E.Emit.took c.args.emit.now (g.St.Store.holds c.args.store.now)) (g.E.Emit.took c.args.emit.now (g.St.Store.holds c.settle.new.store)) (g.E.Emit.took c.empty_parts.new.emit (g.St.Store.holds c.empty_parts.new.store)) [] (emitted_same c.args.shape.now (g.E.Emit.took c.args.emit.now (g.St.Store.holds c.args.store.now)) (g.E.Emit.took c.args.emit.now (g.St.Store.holds c.settle.new.store)) (λ taken took. g.met.E.Emit.asks_own c.args.emit.now (g.St.Store.holds c.args.store.now) (g.St.Store.holds c.settle.new.store) taken (own_same c.args.c.now.tracker _ (state c.args.table.now c.args.parts.now (g.St.Store.holds c.args.store.now) (g.St.Store.signs c.args.store.now)) (state c.settle.new.table c.settle.new.parts (g.St.Store.holds c.settle.new.store) (g.St.Store.signs c.settle.new.store)) c.requires.emitter.apart c.settle.ensures.serves.leaves) took)) _ [] (groups_of_all c.args.shape.now rows (state c.args.table.now c.args.parts.now (g.St.Store.holds c.args.store.now) (g.St.Store.signs c.args.store.now))) (settled.same ∙ sym (append-nil _)) (front settled.left settled.stacked))
    c.empty_parts.ensures.err

pub returns-clause-serves : goal.returns-clause-serves
returns-clause-serves g c = serves_then _ _ _ _ _ _ _ _ _ (serves_own _ _ _ _ _ _ _ (g.met.E.Emit.slots_own c.args.emit.now (g.St.Store.holds c.args.store.now) (g.St.Store.holds c.settle.new.store) (own_same c.args.c.now.tracker _ (state c.args.table.now c.args.parts.now (g.St.Store.holds c.args.store.now) (g.St.Store.signs c.args.store.now)) (state c.settle.new.table c.settle.new.parts (g.St.Store.holds c.settle.new.store) (g.St.Store.signs c.settle.new.store)) c.requires.emitter.apart c.settle.ensures.serves.leaves)) c.settle.ensures.serves) c.empty_parts.ensures.serves

pub returns-clause-emitter : goal.returns-clause-emitter
returns-clause-emitter g c =
    stands_then _ _ _ _ _ _ _ _ _ _ _ _ _ _ (stands_own _ _ _ _ _ c.args.c.now.tracker (state c.args.table.now c.args.parts.now (g.St.Store.holds c.args.store.now) (g.St.Store.signs c.args.store.now)) (state c.settle.new.table c.settle.new.parts (g.St.Store.holds c.settle.new.store) (g.St.Store.signs c.settle.new.store)) c.requires.emitter c.settle.ensures.serves.leaves (λ taken took. g.met.E.Emit.asks_own c.args.emit.now (g.St.Store.holds c.args.store.now) (g.St.Store.holds c.settle.new.store) taken (own_same c.args.c.now.tracker _ (state c.args.table.now c.args.parts.now (g.St.Store.holds c.args.store.now) (g.St.Store.signs c.args.store.now)) (state c.settle.new.table c.settle.new.parts (g.St.Store.holds c.settle.new.store) (g.St.Store.signs c.settle.new.store)) c.requires.emitter.apart c.settle.ensures.serves.leaves) took)) c.empty_parts.ensures.emitter

pub returns-clause-cause : goal.returns-clause-cause
returns-clause-cause g c = came_later c.empty_parts.result _ _ _ _ _ _ (omega arith) c.settle.ensures.serves.leaves.grows c.empty_parts.ensures.cause

pub returns-clause-left : goal.returns-clause-left
returns-clause-left g c =
    on_ok c.empty_parts.result
    (λ first start rows built.
    left_first (rows_of c.args.table.now ++ shares 16 rows) (over c.empty_parts.new.parts (g.St.Store.holds c.empty_parts.new.store) (g.St.Store.signs c.empty_parts.new.store)) start (g.St.Store.signs c.settle.new.store).trail (g.St.Store.signs c.empty_parts.new.store).trail (c.in_ok-settle.ensures.left start rows built)
    (first (low_levels c.settle.new.parts.levels (c.settle.ensures.levels ∙ c.requires.feeding.first))))
    c.empty_parts.ensures.first

pub returns-in_err-settle-clause-want : goal.returns-in_err-settle-clause-want
returns-in_err-settle-clause-want g c = λ none.
    let want : IsWant c.args.parts.now.page_blocks (slots_in (over c.args.parts.now (g.St.Store.holds c.args.store.now) (g.St.Store.signs c.args.store.now))) c.in_err-settle.field-0.0 = c.in_err-settle.ensures.want in
    search (rules, want)

pub returns-clause-want : goal.returns-clause-want
returns-clause-want g c = λ none. want_as c.empty_parts.result c.settle.new.parts.page_blocks c.args.parts.now.page_blocks _ _ c.settle.ensures.serves.blocks c.settle.ensures.serves.slots.sum (c.empty_parts.ensures.want none)

pub returns-in_err-settle-clause-made : goal.returns-in_err-settle-clause-made
returns-in_err-settle-clause-made g c = λ rows shows.
    counts_less (length (rows_of c.args.table.now)) (16 * length (rows_of c.args.table.now) + 15 * length (shares 16 rows)) (g.E.Emit.creates c.args.emit.now) (g.E.Emit.creates c.args.emit.now) (g.St.Store.signs c.args.store.now) (g.St.Store.signs c.settle.new.store) (omega arith)
    (few_counts (length (rows_of c.args.table.now)) (g.E.Emit.creates c.args.emit.now) (g.St.Store.signs c.args.store.now) (g.St.Store.signs c.settle.new.store) c.settle.ensures.made)

pub returns-clause-made : goal.returns-clause-made
returns-clause-made g c = λ rows shows.
    let settled = c.in_ok-settle.ensures.ok rows shows in
    let few = settled.few in
    counts_both (length (rows_of c.args.table.now)) (owed c.settle.new.parts.levels settled.left) (16 * length (rows_of c.args.table.now) + 15 * length (shares 16 rows)) (g.E.Emit.creates c.args.emit.now) (g.E.Emit.creates c.args.emit.now) (g.E.Emit.creates c.empty_parts.new.emit)
    (g.St.Store.signs c.args.store.now) (g.St.Store.signs c.settle.new.store) (g.St.Store.signs c.empty_parts.new.store) (omega (arith, few))
    (few_counts (length (rows_of c.args.table.now)) (g.E.Emit.creates c.args.emit.now) (g.St.Store.signs c.args.store.now) (g.St.Store.signs c.settle.new.store) c.settle.ensures.made)
    (c.empty_parts.ensures.made settled.left settled.stacked)

pub returns-in_err-settle-clause-enough : goal.returns-in_err-settle-clause-enough
returns-in_err-settle-clause-enough g c = λ none.
    let same : c.from_residual.result ≡ Err (Pool c.in_err-settle.field-0.0) = search rules in
    rw same c.in_err-settle.ensures.enough

pub returns-clause-enough : goal.returns-clause-enough
returns-clause-enough g c =
    let a : State = (state c.args.table.now c.args.parts.now (g.St.Store.holds c.args.store.now) (g.St.Store.signs c.args.store.now)) in
    let b : State = (state c.settle.new.table c.settle.new.parts (g.St.Store.holds c.settle.new.store) (g.St.Store.signs c.settle.new.store)) in
    let serves = c.settle.ensures.serves in
    λ none. if_err c.empty_parts.result
    (λ e want rows shows.
    let settled = c.in_ok-settle.ensures.ok rows shows in
    among_since 544 (rows_of c.args.table.now ++ shares 16 rows) a b e serves.blocks serves.leaves.others.block_len serves.slots.sum
    (among_more_of 544 (shares (length c.settle.new.parts.streams) settled.left) (rows_of c.args.table.now ++ shares 16 rows) b e settled.no_more (want settled.left settled.stacked)))
    (c.empty_parts.ensures.enough none)
