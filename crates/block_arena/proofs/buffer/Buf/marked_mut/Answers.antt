use Rattle.std.proofs.Common.{◌≡◌, ◌+◌, ◌^◌, ◌<◌, ℕ, length, drop, sym, ap, ◌∙◌, [], refl, List, length-set}
use Rattle.std.proofs.lemmas.List.{get_or_default}
use Rattle.block_arena.proofs.Pieces.{block_is, length_at, lent_block, same_buffer}
use Rattle.block_arena.proofs.buffer.Buf.marked_mut.Goals as goal

pub returns : goal.returns
returns c =
    let inside = c.self.inside in
    let b = (2 ^ inside.each.shift) in
    let items = inside.blocks.items in
    let i = c.args.i in
    let within : i < length items = rw (← c.self.view_is) at c.requires in
    let lent = λ (w : List ℕ). lent_block b items i c.index_mut-block.result.now (drop 20 w) c.self.invariant.1 within c.index_mut-block.ensures.value in
    let value = c.marked_mut.ensures.value ∙ c.index_mut-block.ensures.value ∙ get_or_default items i c.index_mut-block.result.now [] within ∙ sym (block_is b items i c.self.invariant.1 within) in
    let len = c.marked_mut.ensures.len ∙ ap (λ (n : ℕ). 20 + n) (length_at b items i _ c.self.invariant.1 within c.index_mut-block.ensures.value) in (
      (refl, λ w. rw (← c.self.view_is) (same_buffer {b = 2 ^ inside.each.shift} refl (length-set items i _) (lent w))),
      record { writes_back = tt; value = rw (← c.self.view_is) value; len = rw (← c.self.view_is) len },
    )
