use Rattle.std.proofs.Common.{◌≤◌, ◌<◌, ◌+◌, ℕ, ap, sym, ◌∙◌, arith}
use Rattle.block_arena.specs.Memory.{block_of}
use Rattle.bucket_table.specs.Regions.{cut}
use Rattle.bucket_table.proofs.Marks.{front_is}
use Rattle.bucket_table.proofs.area.front_of.Goals as goal

pub returns : goal.returns
returns c =
    let buf = c.args.buf.now in
    let place = c.place-place.result in
    let count = c.min-count.result in
    let fits : place + count ≤ c.args.block.len = omega (arith, c.min-count.ensures, c.len.ensures.value, c.place-place.ensures.below) in
    let some : 0 < count = omega (arith, c.min-count.ensures, c.len.ensures.value, c.place-place.ensures.below, c.requires.some) in
    let is = front_is buf c.args.block.len c.args.from place count c.block-bytes.result.now c.requires.block c.place-place.ensures.value fits (c.block-bytes.ensures.value ∙ ap (block_of buf) c.part.ensures) c.block-bytes.ensures.len in
    record {
      value = is.1 ∙ ap (λ (n : ℕ). cut c.args.from n buf.bytes) (sym is.0);
      some = omega (arith, some, is.0);
      most = omega (arith, is.0, c.min-count.ensures);
      one = omega (arith, is.0, fits, c.place-place.ensures.value);
    }
