use Rattle.bucket_table.proofs.Lengths.{block_power, buffer_power}
use Rattle.bucket_table.proofs.area.Area.empty.Goals as goal

pub of-requires : goal.of-requires
of-requires c = block_power c.args.block_len c.requires.block_len

pub of-requires-2 : goal.of-requires-2
of-requires-2 c = buffer_power c.args.blocks c.args.block_len c.requires.blocks c.requires.block_len
