use Rattle.std.proofs.Common.{◌≤◌, ◌+◌, ℕ, List, length, ap, ◌∙◌, arith, slice_range}
use Rattle.block_arena.specs.Bytes.{written}
use Rattle.block_arena.proofs.Copies.{written_more}
use Rattle.bucket_table.specs.Regions.{Region, with_bytes}
use Rattle.bucket_table.proofs.area.Area.write_across.Goals as goal

pub loop-done-preserved : goal.loop-done-preserved
loop-done-preserved c =
    let inv = c.loop-done.invariant in
    let before = c.args.self.now in
    let at = c.args.at in
    let done = c.loop-done.done in
    let count = c.min-count.result in
    let piece = c.args.bytes.now in
    let inside : done + count ≤ length piece = omega arith in
    record {
      within = inside;
      wrote =
          c.write_in_part.ensures
          ∙ ap (λ (r : Region). with_bytes (written (at + done) (slice_range piece done (done + count)) r.bytes) r) inv.wrote
          ∙ ap (λ (bytes : List ℕ). with_bytes bytes before) (written_more before.bytes piece at done count inside (omega (arith, c.requires.inside)));
    }
