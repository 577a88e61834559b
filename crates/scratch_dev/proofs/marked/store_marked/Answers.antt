use Rattle.std.proofs.Common.{◌≡◌, ◌+◌, ◌<◌, ◌++◌, List, ℕ, Err, length, drop, arith, refl, sym, ap, ◌∙◌, length-set, subst}
use Rattle.std.proofs.lemmas.List.{length-drop}
use Rattle.block_arena.specs.Memory.{Buffer, block_of}
use Rattle.reservation_tree.specs.Marks.{mark_bytes}
use Rattle.scratch_dev.specs.Rows.{IsStored, mark_of, marked_block}
use Rattle.scratch_dev.proofs.Steps.{walk_more, walk_failed, on_failure, later_more, sum_holds, sum_rose}
use Rattle.scratch_dev.proofs.Behind.{same_block}
use Rattle.scratch_dev.proofs.marked.store_marked.Goals as goal

pub returns-in_err-store_under-clause-slots : goal.returns-in_err-store_under-clause-slots
returns-in_err-store_under-clause-slots g c =
    let inside : c.loop-i.i < length c.loop-i.row-inside.slots.items = omega (arith, c.loop-i-test.true, c.len-i-end.ensures, c.row.invariant.1, c.loop-i.invariant.len) in
    let call = rw (c.marked_mut.ensures.value, c.loop-i.invariant.buffer) at ((c.in_err-store_under.ensures).slot) in
    rw (← c.row.view_is) (walk_failed c.row.inside.slots.items c.loop-i.row-inside.slots.items c.loop-i.i (IsStored g.D.Slot) (marked_block c.args.name c.args.version c.args.buf.now) (marked_block c.args.name c.args.version c.args.buf.now) c.index_mut.result.now c.store_under.new.slot c.from_residual.result c.in_err-store_under.field-0.0 c.from_residual.ensures.0 inside c.loop-i.invariant.len (λ k within. refl) c.loop-i.invariant.earlier c.loop-i.invariant.later c.index_mut.ensures.value call)

pub returns-in_err-store_under-clause-failed : goal.returns-in_err-store_under-clause-failed
returns-in_err-store_under-clause-failed g c =
    let inside : c.loop-i.i < length c.loop-i.row-inside.slots.items = omega (arith, c.loop-i-test.true, c.len-i-end.ensures, c.row.invariant.1, c.loop-i.invariant.len) in
    rw (← c.row.view_is) (on_failure c.from_residual.result (sum_rose g.D.Slot.faults c.row.inside.slots.items c.loop-i.row-inside.slots.items c.loop-i.i c.index_mut.result.now c.store_under.new.slot inside c.index_mut.ensures.value c.loop-i.invariant.never_falls ((c.in_err-store_under.ensures).slot).failed))

pub returns-in_err-store_under-clause-buffer : goal.returns-in_err-store_under-clause-buffer
returns-in_err-store_under-clause-buffer g c =
    let size = c.marked_mut.ensures.len in
    let part = length-drop 20 c.marked_mut.result.now in
    let here = ap length c.marked_mut.ensures.value in
    let whole : length (block_of c.loop-i.buf c.loop-i.i) ≡ c.loop-i.buf.block_len = omega (arith, size, part, here) in
    same_block c.loop-i.buf c.loop-i.i (drop 20 c.store_under.new.block) whole ((c.in_err-store_under.ensures).block ∙ c.marked_mut.ensures.value) ∙ c.loop-i.invariant.buffer

pub loop-i-preserved : goal.loop-i-preserved
loop-i-preserved g c =
    let inside : c.loop-i.i < length c.loop-i.row-inside.slots.items = omega (arith, c.loop-i-test.true, c.len-i-end.ensures, c.row.invariant.1, c.loop-i.invariant.len) in
    let size = c.marked_mut.ensures.len in
    let part = length-drop 20 c.marked_mut.result.now in
    let here = ap length c.marked_mut.ensures.value in
    let whole : length (block_of c.loop-i.buf c.loop-i.i) ≡ c.loop-i.buf.block_len = omega (arith, size, part, here) in
    let call = rw (c.marked_mut.ensures.value, c.loop-i.invariant.buffer) at ((c.in_ok-store_under.ensures).slot) in
    record {
      len = length-set c.loop-i.row-inside.slots.items c.loop-i.i c.store_under.new.slot ∙ c.loop-i.invariant.len;
      earlier = walk_more c.row.inside.slots.items c.loop-i.row-inside.slots.items c.loop-i.i (λ k. IsStored g.D.Slot) (marked_block c.args.name c.args.version c.args.buf.now) (marked_block c.args.name c.args.version c.args.buf.now) c.index_mut.result.now c.store_under.new.slot inside (λ k within. refl) c.loop-i.invariant.earlier c.loop-i.invariant.later c.index_mut.ensures.value call;
      later = later_more c.row.inside.slots.items c.loop-i.row-inside.slots.items c.loop-i.i c.store_under.new.slot c.loop-i.invariant.later;
      never_falls = sum_holds g.D.Slot.faults c.row.inside.slots.items c.loop-i.row-inside.slots.items c.loop-i.i c.index_mut.result.now c.store_under.new.slot inside c.index_mut.ensures.value c.loop-i.invariant.never_falls ((c.in_ok-store_under.ensures).slot).never_falls;
      buffer = same_block c.loop-i.buf c.loop-i.i (drop 20 c.store_under.new.block) whole ((c.in_ok-store_under.ensures).block ∙ c.marked_mut.ensures.value) ∙ c.loop-i.invariant.buffer;
    }
