use Rattle.std.proofs.Common.{◌+◌, ◌≤◌, length, ap, ◌∙◌, arith, slice_range}
use Rattle.block_arena.specs.Bytes.{written}
use Rattle.block_arena.specs.Memory.{with_bytes}
use Rattle.block_arena.proofs.Copies.{written_more}
use Rattle.block_arena.proofs.buffer.Buf.write_across.Goals as goal

pub loop-done-preserved : goal.loop-done-preserved
loop-done-preserved c =
    let buf = c.args.self.now in
    let at = c.args.at in
    let done = c.loop-done.done in
    let count = c.min-written.result in
    let piece = c.args.bytes.now in
    let inside : done + count ≤ length piece = omega arith in
    record {
      within = omega arith;
      wrote =
          c.write_in_block.ensures
          ∙ ap (λ now. with_bytes now (written (at + done) (slice_range piece done (done + count)) now.bytes)) c.loop-done.invariant.wrote
          ∙ ap (with_bytes buf) (written_more buf.bytes piece at done count inside (omega arith));
    }
