use Rattle.std.proofs.lemmas.Nat.{and_mask}
use Rattle.bucket_table.proofs.chains.Chains.place.Goals as goal

pub returns-then-self-clause-value : goal.returns-then-self-clause-value
returns-then-self-clause-value c = rw (c.args.self.power c.if-self.true) (and_mask c.args.hash c.args.self.shift)
