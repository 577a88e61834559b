use Rattle.std.proofs.Common.{◌≡◌, ◌+◌, ◌%◌, ◌/◌, ◌^◌, ◌<◌, ◌≤◌, length, ◌∙◌, arith, get_or}
use Rattle.std.specs.List.{concat}
use Rattle.std.proofs.lemmas.List.{get_or_default}
use Rattle.block_arena.proofs.Pieces.{read_place, nothing_behind, read_nothing}
use Rattle.block_arena.proofs.buffer.Buf.read_in_block.Goals as goal

pub returns-then-index-len : goal.returns-then-index-len
returns-then-index-len c =
    let inside = c.self.inside in
    let items = inside.blocks.items in
    let index = c.block_of-index.result in
    let within : index < length items = omega (arith, inside.blocks.ok.0) in
    let block = c.bytes-block.result.now in
    let fits : length c.args.out.now + c.args.at % 2 ^ inside.each.shift ≤ 2 ^ inside.each.shift = rw (← c.self.view_is) at c.requires.one in
    let is : block ≡ get_or items index block = c.bytes-block.ensures ∙ c.index.ensures ∙ get_or_default items index c.index.result.now block within in
    rw (← c.self.view_is) (c.copy_from_slice.ensures.after ∙ read_place (2 ^ inside.each.shift) items c.args.at index c.place_of-from.result c.self.invariant.1 within c.block_of-index.ensures c.place_of-from.ensures (length c.args.out.now) block fits is)

pub returns-else-index-len : goal.returns-else-index-len
returns-else-index-len c =
    let inside = c.self.inside in
    let items = inside.blocks.items in
    let behind : length items ≤ c.args.at / 2 ^ inside.each.shift = omega (arith, inside.blocks.ok.0, c.block_of-index.ensures) in
    let fits : c.args.at + length c.args.out.now ≤ length (concat items) = rw (← c.self.view_is) at c.requires.inside in
    read_nothing c.args.self.now.bytes c.args.at c.args.out.now (nothing_behind (2 ^ inside.each.shift) items c.args.at c.args.out.now c.self.invariant.1 behind fits)
