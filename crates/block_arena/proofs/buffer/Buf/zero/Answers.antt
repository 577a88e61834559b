use Rattle.std.proofs.Common.{◌≡◌, ◌^◌, length, replicate, ap, ◌∙◌, arith}
use Rattle.block_arena.proofs.Pieces.{same_buffer, zeros_in_all}
use Rattle.block_arena.proofs.buffer.Buf.zero.Goals as goal

pub returns : goal.returns
returns c =
    let before = c.self.inside in
    let after = c.loop-i.self-inside in
    let count : c.len-i-end.result ≡ length before.blocks.items = c.len-i-end.ensures ∙ before.blocks.ok.0 in
    let end : c.loop-i.i ≡ length before.blocks.items = omega arith in
    let size : 2 ^ after.each.shift ≡ 2 ^ before.each.shift = ap (λ each. 2 ^ each.shift) c.loop-i.invariant.kept in
    rw (← c.self.view_is) (same_buffer size c.loop-i.invariant.count (zeros_in_all (2 ^ before.each.shift) before.blocks.items after.blocks.items c.loop-i.i c.self.invariant.1 c.loop-i.invariant.count end (c.loop-i.invariant.zeros ∙ ap (λ n. replicate c.loop-i.i (replicate n 0)) size)))
