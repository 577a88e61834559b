use Rattle.std.proofs.Common.{◌≡◌, ◌^◌, length, sym, ◌∙◌}
use Rattle.block_arena.proofs.Pieces.{length-blocks}
use Rattle.block_arena.proofs.buffer.Buf.len.Goals as goal

pub returns-clause-value : goal.returns-clause-value
returns-clause-value c =
    let inside = c.self.inside in
    let count : c.len.result ≡ length inside.blocks.items = c.len.ensures ∙ inside.blocks.ok.0 in
    rw (← c.self.view_is) (rw (count, c.bytes.ensures) (sym (length-blocks (2 ^ inside.each.shift) inside.blocks.items c.self.invariant.1)))
