use Rattle.std.proofs.lemmas.Nat.{and_mask}
use Rattle.block_arena.proofs.length.BlockLen.place_of.Goals as goal

pub returns : goal.returns
returns c = rw c.bytes.ensures (and_mask c.args.at c.args.self.shift)
