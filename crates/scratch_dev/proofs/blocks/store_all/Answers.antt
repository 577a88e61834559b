use Rattle.std.proofs.Common.{◌<◌, length, arith, refl}
use Rattle.block_arena.specs.Memory.{block_of}
use Rattle.scratch_dev.specs.Rows.{IsStored}
use Rattle.scratch_dev.proofs.Steps.{walk_failed, on_failure, sum_rose}
use Rattle.scratch_dev.proofs.blocks.store_all.Goals as goal

pub returns-in_err-store_block-clause-slots : goal.returns-in_err-store_block-clause-slots
returns-in_err-store_block-clause-slots g c =
    let inside : c.loop-i.i < length c.loop-i.row-inside.slots.items = omega (arith, c.loop-i-test.true, c.len-i-end.ensures, c.row.invariant.1, c.loop-i.invariant.len) in
    let call = rw c.block.ensures.value at (c.in_err-store_block.ensures) in
    rw (← c.row.view_is) (walk_failed c.row.inside.slots.items c.loop-i.row-inside.slots.items c.loop-i.i (IsStored g.D.Slot) (block_of c.args.buf.now) (block_of c.args.buf.now) c.index_mut.result.now c.store_block.new.slot c.from_residual.result c.in_err-store_block.field-0.0 c.from_residual.ensures.0 inside c.loop-i.invariant.len (λ k within. refl) c.loop-i.invariant.earlier c.loop-i.invariant.later c.index_mut.ensures.value call)

pub returns-in_err-store_block-clause-failed : goal.returns-in_err-store_block-clause-failed
returns-in_err-store_block-clause-failed g c =
    let inside : c.loop-i.i < length c.loop-i.row-inside.slots.items = omega (arith, c.loop-i-test.true, c.len-i-end.ensures, c.row.invariant.1, c.loop-i.invariant.len) in
    rw (← c.row.view_is) (on_failure c.from_residual.result (sum_rose g.D.Slot.faults c.row.inside.slots.items c.loop-i.row-inside.slots.items c.loop-i.i c.index_mut.result.now c.store_block.new.slot inside c.index_mut.ensures.value c.loop-i.invariant.never_falls (c.in_err-store_block.ensures).failed))
