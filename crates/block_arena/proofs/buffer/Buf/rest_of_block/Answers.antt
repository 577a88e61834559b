use Rattle.block_arena.proofs.Pieces.{short_blocks}
use Rattle.block_arena.proofs.buffer.Buf.rest_of_block.Goals as goal

pub returns-clause-short : goal.returns-clause-short
returns-clause-short c =
    let inside = c.self.inside in
    rw (← c.self.view_is) (short_blocks inside.each.shift inside.blocks.items inside.each.below c.self.invariant.0 c.self.invariant.1)
