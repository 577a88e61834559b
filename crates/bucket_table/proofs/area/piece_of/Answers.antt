use Rattle.std.proofs.Common.{◌≤◌, ◌+◌, ap, ◌∙◌, arith}
use Rattle.block_arena.specs.Memory.{block_of}
use Rattle.bucket_table.proofs.Marks.{front_is}
use Rattle.bucket_table.proofs.area.piece_of.Goals as goal

pub returns-clause-value : goal.returns-clause-value
returns-clause-value c =
    let buf = c.args.buf.now in
    let place = c.place-place.result in
    let fits : place + c.args.count ≤ c.args.block.len = omega arith in
    (front_is buf c.args.block.len c.args.from place c.args.count c.block-bytes.result.now c.requires.block c.place-place.ensures.value fits (c.block-bytes.ensures.value ∙ ap (block_of buf) c.part.ensures) c.block-bytes.ensures.len).1
