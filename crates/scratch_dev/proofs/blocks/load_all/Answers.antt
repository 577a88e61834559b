use Rattle.std.proofs.Common.{◌≡◌, ◌<◌, length, arith, sym, ap, ◌∙◌, length-set}
use Rattle.block_arena.specs.Memory.{block_of, with_block}
use Rattle.scratch_dev.specs.Rows.{IsLoaded}
use Rattle.scratch_dev.proofs.Steps.{walk_more, walk_failed, on_failure, later_more, sum_holds, sum_rose}
use Rattle.scratch_dev.proofs.Shown.{shows_new, shows_old, as_long}
use Rattle.scratch_dev.proofs.blocks.load_all.Goals as goal

pub returns-in_err-load_block-clause-slots : goal.returns-in_err-load_block-clause-slots
returns-in_err-load_block-clause-slots g c =
    let inside : c.loop-i.i < length c.loop-i.row-inside.slots.items = omega (arith, c.loop-i-test.true, c.len-i-end.ensures, c.row.invariant.1, c.loop-i.invariant.len) in
    let whole : length (block_of c.loop-i.buf c.loop-i.i) ≡ c.loop-i.buf.block_len = ap length (sym c.block_mut.ensures.value) ∙ c.block_mut.ensures.len in
    let fits : length c.load_block.new.block ≡ c.loop-i.buf.block_len = c.load_block.auto.block ∙ c.block_mut.ensures.len in
    let call = rw (← shows_new c.loop-i.buf c.loop-i.i c.load_block.new.block whole fits) at (c.in_err-load_block.ensures) in
    rw (← c.row.view_is) (walk_failed c.row.inside.slots.items c.loop-i.row-inside.slots.items c.loop-i.i (IsLoaded g.D.Slot) (block_of c.loop-i.buf) (block_of (with_block c.loop-i.buf c.loop-i.i c.load_block.new.block)) c.index_mut.result.now c.load_block.new.slot c.from_residual.result c.in_err-load_block.field-0.0 c.from_residual.ensures.0 inside c.loop-i.invariant.len (shows_old c.loop-i.buf c.loop-i.i c.load_block.new.block whole fits) c.loop-i.invariant.earlier c.loop-i.invariant.later c.index_mut.ensures.value call)

pub returns-in_err-load_block-clause-failed : goal.returns-in_err-load_block-clause-failed
returns-in_err-load_block-clause-failed g c =
    let inside : c.loop-i.i < length c.loop-i.row-inside.slots.items = omega (arith, c.loop-i-test.true, c.len-i-end.ensures, c.row.invariant.1, c.loop-i.invariant.len) in
    rw (← c.row.view_is) (on_failure c.from_residual.result (sum_rose g.D.Slot.faults c.row.inside.slots.items c.loop-i.row-inside.slots.items c.loop-i.i c.index_mut.result.now c.load_block.new.slot inside c.index_mut.ensures.value c.loop-i.invariant.never_falls (c.in_err-load_block.ensures).failed))

pub loop-i-preserved : goal.loop-i-preserved
loop-i-preserved g c =
    let inside : c.loop-i.i < length c.loop-i.row-inside.slots.items = omega (arith, c.loop-i-test.true, c.len-i-end.ensures, c.row.invariant.1, c.loop-i.invariant.len) in
    let whole : length (block_of c.loop-i.buf c.loop-i.i) ≡ c.loop-i.buf.block_len = ap length (sym c.block_mut.ensures.value) ∙ c.block_mut.ensures.len in
    let fits : length c.load_block.new.block ≡ c.loop-i.buf.block_len = c.load_block.auto.block ∙ c.block_mut.ensures.len in
    let call = rw (← shows_new c.loop-i.buf c.loop-i.i c.load_block.new.block whole fits) at (c.in_ok-load_block.ensures) in
    record {
      len = length-set c.loop-i.row-inside.slots.items c.loop-i.i c.load_block.new.slot ∙ c.loop-i.invariant.len;
      earlier = walk_more c.row.inside.slots.items c.loop-i.row-inside.slots.items c.loop-i.i (λ k. IsLoaded g.D.Slot) (block_of c.loop-i.buf) (block_of (with_block c.loop-i.buf c.loop-i.i c.load_block.new.block)) c.index_mut.result.now c.load_block.new.slot inside (shows_old c.loop-i.buf c.loop-i.i c.load_block.new.block whole fits) c.loop-i.invariant.earlier c.loop-i.invariant.later c.index_mut.ensures.value call;
      later = later_more c.row.inside.slots.items c.loop-i.row-inside.slots.items c.loop-i.i c.load_block.new.slot c.loop-i.invariant.later;
      never_falls = sum_holds g.D.Slot.faults c.row.inside.slots.items c.loop-i.row-inside.slots.items c.loop-i.i c.index_mut.result.now c.load_block.new.slot inside c.index_mut.ensures.value c.loop-i.invariant.never_falls (c.in_ok-load_block.ensures).never_falls;
      blocks = c.loop-i.invariant.blocks;
      block_len = c.loop-i.invariant.block_len;
      bytes = as_long c.loop-i.buf c.loop-i.i c.load_block.new.block whole fits ∙ c.loop-i.invariant.bytes;
    }
