use Rattle.std.proofs.Common.{◌≡◌, ◌^◌, length, replicate, take}
use Rattle.block_arena.specs.Blocks.{AreBlocks}
use Rattle.block_arena.proofs.buffer.Buf.zero.Given as goal

abbrev pub invariant-loop-i : goal.invariant-loop-i
invariant-loop-i l =
    let items = l.self-inside.blocks.items in
    let size = 2 ^ l.self-inside.each.shift in
    record {
      kept : l.self-inside.each ≡ l.initial.self-inside.each;
      count : length items ≡ length l.initial.self-inside.blocks.items;
      sizes : AreBlocks size items;
      zeros : take l.i items ≡ replicate l.i (replicate size 0);
    }
