use Rattle.std.proofs.Common.{sym, arith}
use Rattle.std.proofs.lemmas.Nat.{pow_pos}
use Rattle.block_arena.proofs.Powers.{same_power}
use Rattle.bucket_table.proofs.stride.Stride.of.Goals as goal

pub invariant_of-result : goal.invariant_of-result
invariant_of-result c =
    let low = c.ilog2.ensures.power_le in
    record {
      some = (let some = pow_pos c.ilog2.result in omega (arith, low, some));
      below = c.ilog2.ensures.bound;
      power = sym (same_power c.requires.0 c.ilog2.result c.args.len c.requires.1 low c.ilog2.ensures.next_power_gt);
    }
