use Rattle.std.proofs.Common.{rules, ◌≡◌, Err, false, ◌∙◌, [], ℕ, List, length, take, ap, subst, arith}
use Rattle.std.specs.Prelude.{slice_get}
use Rattle.tuple_stream.specs.Streamed.{Streamed}
use Rattle.tuple_stream.specs.Steps.{scene}
use Rattle.tuple_stream.proofs.PageLists.{at_end}
use Rattle.bucket_table.specs.Tables.{Table}
use Rattle.group_op.specs.Causes.{IsWantOf}
use Rattle.group_op.specs.Emission.{Emitted, EmittedFront}
use Rattle.tuple_stream.specs.Families.{slots_in}
use Rattle.partition_stack.specs.Stack.{over}
use Rattle.group_op.proofs.Sharing.{alone_want}
use Rattle.group_rows.specs.Partials.{combined_of}
use Rattle.group_op.specs.Finishing.{HasRead}
use Rattle.group_op.specs.Held.{state}
use Rattle.group_op.specs.Stored.{grouping_of, partials_at}
use Rattle.partition_stack.proofs.Emitters.{beside_stood, stands_emit, stands_then}
use Rattle.partition_stack.proofs.Making.{counts_both, emptied_makes, few_counts}
use Rattle.group_op.proofs.Besides.{closed_popped, leaves_popped, own_same, serves_emit, stands_own}
use Rattle.group_op.proofs.Begun.{top_goes}
use Rattle.group_op.proofs.HandedOn.{emitted_on, groups_read, popped_long, serves_handed, shows_handed}
use Rattle.group_op.proofs.Wants.{alone_below}
use Rattle.group_op.proofs.finishing.hand_on.Goals as goal

pub returns-in_err-emit_table-clause-err : goal.returns-in_err-emit_table-clause-err
returns-in_err-emit_table-clause-err g c =
    let front : (rows : ℕ → List (List ℕ)) (level : ℕ) → HasRead c.args.shape.now c.args._at level false rows (rows c.args._at) [] (state c.args.table.now c.args.parts.now (g.St.Store.holds c.args.store.now) (g.St.Store.signs c.args.store.now)) → EmittedFront c.args.shape.now (g.E.Emit.took c.args.emit.now (g.St.Store.holds c.args.store.now)) (g.E.Emit.took c.emit_table.new.emit (g.St.Store.holds c.emit_table.new.store)) (combined_of (grouping_of c.args.shape.now) (partials_at c.args.shape.now (rows c.args._at))) =
    λ rows level read. subst (EmittedFront c.args.shape.now _ _) (groups_read c.args.shape.now c.args._at level rows _ read) (c.in_err-emit_table.ensures.err read.distinct) in
    search (rules, front)

pub returns-in_err-emit_table-clause-serves : goal.returns-in_err-emit_table-clause-serves
returns-in_err-emit_table-clause-serves g c =
    let stood = c.emit_table.ensures.stood in
    serves_emit c.args.c.now.tracker _ c.args.shape.now c.args.table.now c.args.parts.now _ _ _ _ c.requires.emitter.apart stood.others c.requires.held _ _ stood.room c.emit_table.ensures.slots stood.grows c.requires.entries

pub drop_all-requires : goal.drop_all-requires
drop_all-requires g c =
    let stood = c.emit_table.ensures.stood in
    let serves = serves_emit c.args.c.now.tracker _ c.args.shape.now c.args.table.now c.args.parts.now _ _ _ _ c.requires.emitter.apart stood.others c.requires.held _ _ stood.room c.emit_table.ensures.slots stood.grows c.requires.entries in
    (c.args.c.now.tracker, serves.held.owns.shaped.each (length c.pop-top.new.self.streams) c.pop-top.result (ap (λ (ss : List Streamed). slice_get ss (length c.pop-top.new.self.streams)) c.pop-top.ensures.streams ∙ at_end c.pop-top.new.self.streams c.pop-top.result))

pub returns-clause-popped : goal.returns-clause-popped
returns-clause-popped g c =
    let many = popped_long c.args.parts.now c.pop-top.new.self c.pop-top.result c.args._at c.pop-top.ensures.streams c.requires.top in (
      record {
        empty = ap (λ (x : Table). x.nodes) c.clear.ensures;
        closed = closed_popped c.args._at c.args.parts.now c.pop-top.new.self c.pop-top.result (g.St.Store.holds c.drop_all.new.store) (g.St.Store.signs c.drop_all.new.store) c.pop-top.ensures.streams many c.requires.rests;
      },
      record { many = many; levels = c.pop-top.ensures.levels ∙ ap (λ (n : ℕ). take n c.args.parts.now.levels) many },
    )

pub returns-clause-emitter : goal.returns-clause-emitter
returns-clause-emitter g c =
    let stood = c.emit_table.ensures.stood in
    let serves = serves_emit c.args.c.now.tracker _ c.args.shape.now c.args.table.now c.args.parts.now _ _ _ _ c.requires.emitter.apart stood.others c.requires.held _ _ stood.room c.emit_table.ensures.slots stood.grows c.requires.entries in
    let shape = serves.held.owns.shaped.each (length c.pop-top.new.self.streams) c.pop-top.result (ap (λ (ss : List Streamed). slice_get ss (length c.pop-top.new.self.streams)) c.pop-top.ensures.streams ∙ at_end c.pop-top.new.self.streams c.pop-top.result) in
    let leaves = leaves_popped c.args.c.now.tracker c.args.table.now c.args.parts.now c.pop-top.new.self c.pop-top.result _ _ _ serves.held c.pop-top.ensures.streams c.pop-top.ensures.blocks (c.drop_all.ensures.went c.args.c.now.tracker shape) c.drop_all.ensures.value in
    let beside = beside_stood c.args.c.now.tracker _ _ _ _ _ _ _ _ _ _ c.requires.emitter stood in
    stands_then _ _ _ _ _ _ _ _ _ _ _ _ _ _ (stands_emit _ _ _ _ _ _ _ _ _ _ _ _ stood c.emit_table.ensures.took)
    (stands_own _ _ _ _ _ c.args.c.now.tracker (state c.args.table.now c.args.parts.now (g.St.Store.holds c.emit_table.new.store) (g.St.Store.signs c.emit_table.new.store)) (state c.args.table.now c.pop-top.new.self (g.St.Store.holds c.drop_all.new.store) (g.St.Store.signs c.drop_all.new.store)) beside leaves
    (λ rows took. g.met.E.Emit.asks_own c.emit_table.new.emit (g.St.Store.holds c.emit_table.new.store) (g.St.Store.holds c.drop_all.new.store) rows (own_same c.args.c.now.tracker _ (state c.args.table.now c.args.parts.now (g.St.Store.holds c.emit_table.new.store) (g.St.Store.signs c.emit_table.new.store)) (state c.args.table.now c.pop-top.new.self (g.St.Store.holds c.drop_all.new.store) (g.St.Store.signs c.drop_all.new.store)) beside.apart leaves) took))

pub returns-clause-ok : goal.returns-clause-ok
returns-clause-ok g c =
    let stood = c.emit_table.ensures.stood in
    let serves = serves_emit c.args.c.now.tracker _ c.args.shape.now c.args.table.now c.args.parts.now _ _ _ _ c.requires.emitter.apart stood.others c.requires.held _ _ stood.room c.emit_table.ensures.slots stood.grows c.requires.entries in
    let shape = serves.held.owns.shaped.each (length c.pop-top.new.self.streams) c.pop-top.result (ap (λ (ss : List Streamed). slice_get ss (length c.pop-top.new.self.streams)) c.pop-top.ensures.streams ∙ at_end c.pop-top.new.self.streams c.pop-top.result) in
    let leaves = leaves_popped c.args.c.now.tracker c.args.table.now c.args.parts.now c.pop-top.new.self c.pop-top.result _ _ _ serves.held c.pop-top.ensures.streams c.pop-top.ensures.blocks (c.drop_all.ensures.went c.args.c.now.tracker shape) c.drop_all.ensures.value in
    let beside = beside_stood c.args.c.now.tracker _ _ _ _ _ _ _ _ _ _ c.requires.emitter stood in
    λ rows level read. (
      shows_handed c.args.c.now.tracker _ c.args.shape.now c.args._at c.args.table.now c.args.parts.now c.pop-top.new.self c.pop-top.result _ _ _ _ _ c.requires.held c.requires.entries c.requires.emitter.apart stood.others
          c.pop-top.ensures.streams c.pop-top.ensures.blocks (c.drop_all.ensures.went c.args.c.now.tracker shape) c.drop_all.ensures.value level rows c.requires.top read,
      emitted_on c.args.shape.now _ (g.E.Emit.took c.emit_table.new.emit (g.St.Store.holds c.emit_table.new.store)) _ _
          (λ rows took. g.met.E.Emit.asks_own c.emit_table.new.emit (g.St.Store.holds c.emit_table.new.store) (g.St.Store.holds c.drop_all.new.store) rows (own_same c.args.c.now.tracker _ (state c.args.table.now c.args.parts.now (g.St.Store.holds c.emit_table.new.store) (g.St.Store.signs c.emit_table.new.store)) (state c.args.table.now c.pop-top.new.self (g.St.Store.holds c.drop_all.new.store) (g.St.Store.signs c.drop_all.new.store)) beside.apart leaves) took)
          (subst (Emitted c.args.shape.now _ _) (groups_read c.args.shape.now c.args._at level rows _ read) (c.in_ok-emit_table.ensures.ok read.distinct)),
    )

pub returns-clause-first : goal.returns-clause-first
returns-clause-first g c =
    let stood = c.emit_table.ensures.stood in
    let serves = serves_emit c.args.c.now.tracker _ c.args.shape.now c.args.table.now c.args.parts.now _ _ _ _ c.requires.emitter.apart stood.others c.requires.held _ _ stood.room c.emit_table.ensures.slots stood.grows c.requires.entries in
    let shape = serves.held.owns.shaped.each (length c.pop-top.new.self.streams) c.pop-top.result (ap (λ (ss : List Streamed). slice_get ss (length c.pop-top.new.self.streams)) c.pop-top.ensures.streams ∙ at_end c.pop-top.new.self.streams c.pop-top.result) in
    λ between.
    top_goes c.args.c.now.tracker c.args.table.now c.args.parts.now c.pop-top.new.self.streams c.pop-top.result (g.St.Store.holds c.args.store.now) (g.St.Store.holds c.emit_table.new.store) (g.St.Store.signs c.args.store.now) (g.St.Store.signs c.emit_table.new.store)
    (scene c.drop_all.new.self (g.St.Store.holds c.drop_all.new.store) (g.St.Store.signs c.drop_all.new.store)) c.pop-top.ensures.streams (c.drop_all.ensures.went c.args.c.now.tracker shape) (c.emit_table.ensures.still between.empty) between

pub returns-clause-serves : goal.returns-clause-serves
returns-clause-serves g c =
    let stood = c.emit_table.ensures.stood in
    let serves = serves_emit c.args.c.now.tracker _ c.args.shape.now c.args.table.now c.args.parts.now _ _ _ _ c.requires.emitter.apart stood.others c.requires.held _ _ stood.room c.emit_table.ensures.slots stood.grows c.requires.entries in
    let shape = serves.held.owns.shaped.each (length c.pop-top.new.self.streams) c.pop-top.result (ap (λ (ss : List Streamed). slice_get ss (length c.pop-top.new.self.streams)) c.pop-top.ensures.streams ∙ at_end c.pop-top.new.self.streams c.pop-top.result) in
    let leaves = leaves_popped c.args.c.now.tracker c.args.table.now c.args.parts.now c.pop-top.new.self c.pop-top.result _ _ _ serves.held c.pop-top.ensures.streams c.pop-top.ensures.blocks (c.drop_all.ensures.went c.args.c.now.tracker shape) c.drop_all.ensures.value in
    let beside = beside_stood c.args.c.now.tracker _ _ _ _ _ _ _ _ _ _ c.requires.emitter stood in
    let still = g.met.E.Emit.slots_own c.emit_table.new.emit (g.St.Store.holds c.emit_table.new.store) (g.St.Store.holds c.drop_all.new.store) (own_same c.args.c.now.tracker _ (state c.args.table.now c.args.parts.now (g.St.Store.holds c.emit_table.new.store) (g.St.Store.signs c.emit_table.new.store)) (state c.args.table.now c.pop-top.new.self (g.St.Store.holds c.drop_all.new.store) (g.St.Store.signs c.drop_all.new.store)) beside.apart leaves) in
    serves_handed c.args.c.now.tracker _ c.args.shape.now c.args._at c.args.table.now c.args.parts.now c.pop-top.new.self c.pop-top.result _ _ _ _ _ c.requires.held c.requires.entries c.requires.emitter.apart stood.others
    c.pop-top.ensures.streams c.pop-top.ensures.blocks (c.drop_all.ensures.went c.args.c.now.tracker shape) c.drop_all.ensures.value _ _ _ stood.room c.emit_table.ensures.slots still stood.grows c.clear.new.self c.clear.ensures

pub returns-in_err-emit_table-clause-want : goal.returns-in_err-emit_table-clause-want
returns-in_err-emit_table-clause-want g c = λ none.
    let want : IsWantOf c.args.parts.now.page_blocks (slots_in (over c.args.parts.now (g.St.Store.holds c.args.store.now) (g.St.Store.signs c.args.store.now))) c.in_err-emit_table.field-0.0 =
    alone_want c.args.parts.now.page_blocks _ _ _ _ _ c.in_err-emit_table.field-0.0 (c.emit_table.ensures.stood.alone none) c.in_err-emit_table.ensures.cause in
    search (rules, want)

pub returns-in_err-emit_table-clause-made : goal.returns-in_err-emit_table-clause-made
returns-in_err-emit_table-clause-made g c = c.emit_table.ensures.stood.made

pub returns-clause-made : goal.returns-clause-made
returns-clause-made g c =
    let stood = c.emit_table.ensures.stood in
    let serves = serves_emit c.args.c.now.tracker _ c.args.shape.now c.args.table.now c.args.parts.now _ _ _ _ c.requires.emitter.apart stood.others c.requires.held _ _ stood.room c.emit_table.ensures.slots stood.grows c.requires.entries in
    let shape = serves.held.owns.shaped.each (length c.pop-top.new.self.streams) c.pop-top.result (ap (λ (ss : List Streamed). slice_get ss (length c.pop-top.new.self.streams)) c.pop-top.ensures.streams ∙ at_end c.pop-top.new.self.streams c.pop-top.result) in
    counts_both 0 0 0 (g.E.Emit.creates c.args.emit.now) (g.E.Emit.creates c.emit_table.new.emit) (g.E.Emit.creates c.emit_table.new.emit) (g.St.Store.signs c.args.store.now) (g.St.Store.signs c.emit_table.new.store) (g.St.Store.signs c.drop_all.new.store) (omega arith) stood.made
    (few_counts 0 (g.E.Emit.creates c.emit_table.new.emit) (g.St.Store.signs c.emit_table.new.store) (g.St.Store.signs c.drop_all.new.store)
    (emptied_makes c.args.c.now.tracker (scene c.pop-top.result (g.St.Store.holds c.emit_table.new.store) (g.St.Store.signs c.emit_table.new.store)) (scene c.drop_all.new.self (g.St.Store.holds c.drop_all.new.store) (g.St.Store.signs c.drop_all.new.store)) (c.drop_all.ensures.went c.args.c.now.tracker shape)))

pub returns-in_err-emit_table-clause-enough : goal.returns-in_err-emit_table-clause-enough
returns-in_err-emit_table-clause-enough g c = λ none.
    let same : c.from_residual.result ≡ Err c.in_err-emit_table.field-0.0 = search rules in
    rw same (λ most total. alone_below _ _ most total _ _ c.in_err-emit_table.field-0.0 (c.emit_table.ensures.stood.alone none) c.in_err-emit_table.ensures.cause)
