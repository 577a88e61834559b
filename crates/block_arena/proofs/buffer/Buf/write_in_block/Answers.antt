use Rattle.std.proofs.Common.{◌≡◌, ◌+◌, ◌-◌, ◌%◌, ◌/◌, ◌^◌, ◌<◌, ◌≤◌, ℕ, length, refl, ap, arith, length-set}
use Rattle.std.specs.List.{concat}
use Rattle.block_arena.specs.Memory.{with_bytes}
use Rattle.block_arena.proofs.Copies.{put_is_written}
use Rattle.block_arena.proofs.Pieces.{write_place, nothing_behind, write_nothing, same_buffer}
use Rattle.block_arena.proofs.buffer.Buf.write_in_block.Goals as goal

pub returns-then-index-len : goal.returns-then-index-len
returns-then-index-len c =
    let inside = c.self.inside in
    let size : ℕ = 2 ^ inside.each.shift in
    let items = inside.blocks.items in
    let index = c.block_of-index.result in
    let from = c.place_of-from.result in
    let piece = c.args.bytes.now in
    let block = c.index_mut.result.now in
    let within : index < length items = omega (arith, inside.blocks.ok.0) in
    let fits : length piece + c.args.at % size ≤ size = rw (← c.self.view_is) at c.requires.one in
    let width : from + length piece - from ≡ length piece = omega arith in
    let new_is = put_is_written block c.bytes_mut-block.result.now piece c.copy_from_slice.new.self from _ c.bytes_mut-block.ensures.value c.copy_from_slice.ensures.after width in
    rw (← c.self.view_is) (same_buffer {b = size} refl (length-set items index _) (write_place size items c.args.at index from c.self.invariant.1 within c.block_of-index.ensures c.place_of-from.ensures piece block _ fits c.index_mut.ensures.value new_is))

pub returns-else-index-len : goal.returns-else-index-len
returns-else-index-len c =
    let inside = c.self.inside in
    let size : ℕ = 2 ^ inside.each.shift in
    let items = inside.blocks.items in
    let buf = c.args.self.now in
    let piece = c.args.bytes.now in
    let behind : length items ≤ c.args.at / size = omega (arith, inside.blocks.ok.0, c.block_of-index.ensures) in
    let fits : c.args.at + length piece ≤ length (concat items) = rw (← c.self.view_is) at c.requires.inside in
    ap (with_bytes buf) (write_nothing buf.bytes c.args.at piece (nothing_behind size items c.args.at piece c.self.invariant.1 behind fits))
