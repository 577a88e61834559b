use Rattle.std.proofs.Common.{◌∙◌}
use Rattle.group_op.proofs.Gained.{hash_there}
use Rattle.group_op.proofs.hashing.hash_of_row.Goals as goal

pub returns : goal.returns
returns c = c.key_hash.ensures ∙ hash_there c.law_row_back.ensures.law c.args.shape.now c.args.row.now c.requires
