use Rattle.std.proofs.Common.{◌≡◌, ◌+◌, ◌^◌, All, vec_len, vec_capacity}
use Rattle.block_arena.specs.Blocks.{AreBlocks}
use Rattle.block_arena.proofs.supply.first_blocks.Given as goal

abbrev pub invariant-loop-i : goal.invariant-loop-i
invariant-loop-i l = record {
  left : vec_len l.from + l._i ≡ vec_len l.initial.from;
  made : vec_len l.to ≡ vec_len l.initial.to + l._i;
  to_room : vec_capacity l.to ≡ vec_capacity l.initial.to;
  from_sizes : All (λ room. room ≡ 2 ^ l.each.shift) l.from.items;
  to_sizes : AreBlocks (2 ^ l.each.shift) l.initial.to.items → AreBlocks (2 ^ l.each.shift) l.to.items;
}
