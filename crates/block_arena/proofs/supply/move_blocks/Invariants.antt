use Rattle.std.proofs.Common.{◌≡◌, ◌+◌, ℕ, vec_len, vec_capacity}
use Rattle.block_arena.specs.Blocks.{AreBlocks}
use Rattle.block_arena.proofs.supply.move_blocks.Given as goal

abbrev pub invariant-loop-i : goal.invariant-loop-i
invariant-loop-i l = record {
  left : vec_len l.from + l._i ≡ vec_len l.initial.from;
  moved : vec_len l.to ≡ vec_len l.initial.to + l._i;
  from_room : vec_capacity l.from ≡ vec_capacity l.initial.from;
  to_room : vec_capacity l.to ≡ vec_capacity l.initial.to;
  from_sizes : (len : ℕ) → AreBlocks len l.initial.from.items → AreBlocks len l.from.items;
  to_sizes : (len : ℕ) → AreBlocks len l.initial.from.items → AreBlocks len l.initial.to.items → AreBlocks len l.to.items;
}
