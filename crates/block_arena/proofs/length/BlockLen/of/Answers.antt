use Rattle.block_arena.proofs.Powers.{power_of_two, same_power}
use Rattle.block_arena.proofs.length.BlockLen.of.Goals as goal

pub returns : goal.returns
returns c =
    let power = power_of_two c.args.bytes c.requires in
    same_power power.0 c.ilog2.result c.args.bytes power.1 c.ilog2.ensures.power_le c.ilog2.ensures.next_power_gt
