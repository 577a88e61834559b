use Rattle.group_op.proofs.Growth.{grown_then}
use Rattle.group_op.proofs.growing.grow.Goals as goal

pub returns-then-nodes-heads : goal.returns-then-nodes-heads
returns-then-nodes-heads g c = grown_then c.args.c.now.tracker c.args.shape.now _ _ _ c.lengthen.ensures c.widen.ensures
