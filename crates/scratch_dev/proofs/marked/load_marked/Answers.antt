use Rattle.std.proofs.Common.{◌≡◌, ℕ, ◌+◌, ◌<◌, List, Err, length, drop, arith, sym, ap, ◌∙◌, subst, length-set}
use Rattle.std.proofs.lemmas.List.{length-drop}
use Rattle.block_arena.specs.Memory.{block_of, with_block}
use Rattle.scratch_dev.specs.Rows.{IsLoadedUnder, mark_of}
use Rattle.scratch_dev.proofs.Steps.{walk_more, walk_ended, later_more, sum_holds}
use Rattle.scratch_dev.proofs.Shown.{shows_new, shows_old, as_long}
use Rattle.scratch_dev.proofs.marked.load_marked.Goals as goal

pub returns-in-Err-clause-slots : goal.returns-in-Err-clause-slots
returns-in-Err-clause-slots g c =
    let inside : c.loop-i.i < length c.loop-i.row-inside.slots.items = omega (arith, c.loop-i-test.true, c.len-i-end.ensures, c.row.invariant.1, c.loop-i.invariant.len) in
    let size = c.marked_mut.ensures.len in
    let whole : length (block_of c.loop-i.buf c.loop-i.i) ≡ c.loop-i.buf.block_len = omega (arith, size, length-drop 20 c.marked_mut.result.now, ap length c.marked_mut.ensures.value) in
    let fits : length (drop 20 c.load_under.new.block) ≡ c.loop-i.buf.block_len = omega (arith, size, length-drop 20 c.load_under.new.block, c.load_under.auto.block) in
    let call = subst (λ (b : List ℕ). IsLoadedUnder g.D.Slot (mark_of c.args.name c.args.version c.loop-i.i) b (Err c.in-Err.ended) c.index_mut.result.now c.load_under.new.slot) (sym (shows_new c.loop-i.buf c.loop-i.i (drop 20 c.load_under.new.block) whole fits)) (c.in-Err.ensures) in
    rw (← c.row.view_is) (walk_ended c.row.inside.slots.items c.loop-i.row-inside.slots.items c.loop-i.i (λ k. IsLoadedUnder g.D.Slot (mark_of c.args.name c.args.version k)) (block_of c.loop-i.buf) (block_of (with_block c.loop-i.buf c.loop-i.i (drop 20 c.load_under.new.block))) c.index_mut.result.now c.load_under.new.slot c.in-Err.ended inside c.loop-i.invariant.len (shows_old c.loop-i.buf c.loop-i.i (drop 20 c.load_under.new.block) whole fits) c.loop-i.invariant.earlier c.loop-i.invariant.later c.index_mut.ensures.value call)

pub loop-i-preserved : goal.loop-i-preserved
loop-i-preserved g c =
    let inside : c.loop-i.i < length c.loop-i.row-inside.slots.items = omega (arith, c.loop-i-test.true, c.len-i-end.ensures, c.row.invariant.1, c.loop-i.invariant.len) in
    let size = c.marked_mut.ensures.len in
    let whole : length (block_of c.loop-i.buf c.loop-i.i) ≡ c.loop-i.buf.block_len = omega (arith, size, length-drop 20 c.marked_mut.result.now, ap length c.marked_mut.ensures.value) in
    let fits : length (drop 20 c.load_under.new.block) ≡ c.loop-i.buf.block_len = omega (arith, size, length-drop 20 c.load_under.new.block, c.load_under.auto.block) in
    let call = rw (← shows_new c.loop-i.buf c.loop-i.i (drop 20 c.load_under.new.block) whole fits) at (c.in-Ok.ensures) in
    record {
      len = length-set c.loop-i.row-inside.slots.items c.loop-i.i c.load_under.new.slot ∙ c.loop-i.invariant.len;
      earlier = walk_more c.row.inside.slots.items c.loop-i.row-inside.slots.items c.loop-i.i (λ k. IsLoadedUnder g.D.Slot (mark_of c.args.name c.args.version k)) (block_of c.loop-i.buf) (block_of (with_block c.loop-i.buf c.loop-i.i (drop 20 c.load_under.new.block))) c.index_mut.result.now c.load_under.new.slot inside (shows_old c.loop-i.buf c.loop-i.i (drop 20 c.load_under.new.block) whole fits) c.loop-i.invariant.earlier c.loop-i.invariant.later c.index_mut.ensures.value call;
      later = later_more c.row.inside.slots.items c.loop-i.row-inside.slots.items c.loop-i.i c.load_under.new.slot c.loop-i.invariant.later;
      never_falls = sum_holds g.D.Slot.faults c.row.inside.slots.items c.loop-i.row-inside.slots.items c.loop-i.i c.index_mut.result.now c.load_under.new.slot inside c.index_mut.ensures.value c.loop-i.invariant.never_falls (c.in-Ok.ensures).never_falls;
      blocks = c.loop-i.invariant.blocks;
      block_len = c.loop-i.invariant.block_len;
      bytes = as_long c.loop-i.buf c.loop-i.i (drop 20 c.load_under.new.block) whole fits ∙ c.loop-i.invariant.bytes;
    }
