use Rattle.std.proofs.Common.{◌≡◌, ◌++◌, drop, take}
use Rattle.group_op.proofs.spelling.set_frame.Given as goal

abbrev pub invariant-loop-at : goal.invariant-loop-at
invariant-loop-at l = l.out.items ≡ take l.at l.frame ++ drop l.at l.fn.out.items
