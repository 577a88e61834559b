use Rattle.std.proofs.Common.{rules}
use Rattle.group_op.proofs.KeyHashing.{hash_goes}
use Rattle.group_op.proofs.KeyWalking.{there_or}
use Rattle.group_op.proofs.hashing.hash_column.Goals as goal

pub returns-clause-part : goal.returns-clause-part
returns-clause-part c = hash_goes _ _ c.args.hash _ c.args.bytes.now _ _ (there_or c.args.kinds.now c.args.column _ (search rules)) c.in_ok-len.ensures.cut c.hash_tagged.ensures
