use Rattle.std.proofs.Common.{◌^◌, ◌<◌, length, sym, ◌∙◌, []}
use Rattle.std.proofs.lemmas.List.{get_or_default}
use Rattle.block_arena.proofs.Pieces.{block_is}
use Rattle.block_arena.proofs.buffer.Buf.marked.Goals as goal

pub returns-clause-value : goal.returns-clause-value
returns-clause-value c =
    let inside = c.self.inside in
    let i = c.args.i in
    let within : i < length inside.blocks.items = rw (← c.self.view_is) at c.requires in
    rw (← c.self.view_is) (c.marked.ensures.value ∙ c.index.ensures ∙ get_or_default inside.blocks.items i c.index.result.now [] within ∙ sym (block_is (2 ^ inside.each.shift) inside.blocks.items i c.self.invariant.1 within))
