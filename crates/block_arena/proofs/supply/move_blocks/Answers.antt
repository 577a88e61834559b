use Rattle.std.proofs.Common.{ℕ, arith}
use Rattle.block_arena.proofs.Pieces.{moved_sizes}
use Rattle.block_arena.specs.Blocks.{AreBlocks}
use Rattle.block_arena.proofs.supply.move_blocks.Goals as goal

pub loop-i-preserved : goal.loop-i-preserved
loop-i-preserved c =
    let before = c.loop-i.invariant in
    let moved = λ (len : ℕ) (all : AreBlocks len c.args.from.now.items). moved_sizes len c.loop-i.from.items c.take_last.new.self.items c.loop-i.to.items c.push_reserved.new.self.items c.take_last.result c.take_last.ensures.items c.push_reserved.ensures.items (before.from_sizes len all) in
    record {
      left = omega arith;
      moved = omega arith;
      from_room = omega arith;
      to_room = omega arith;
      from_sizes = λ len all. (moved len all).0;
      to_sizes = λ len all sizes. (moved len all).1 (before.to_sizes len all sizes);
    }
