use Rattle.std.proofs.lemmas.Nat.{and_mask}
use Rattle.bucket_table.proofs.stride.Stride.place.Goals as goal

pub returns-clause-value : goal.returns-clause-value
returns-clause-value c = rw c.args.self.power (and_mask c.args.at c.args.self.shift)
