use Rattle.group_op.specs.Pouring.{lent_by}
use Rattle.group_op.proofs.operator.GroupOp.hand_over.Given as goal

abbrev pub ghosts-pour : goal.ghosts-pour
ghosts-pour g a = record { was = lent_by g.St.Store a.inlet }
