use Rattle.std.proofs.Common.{◌≡◌, ◌≤◌, length, take, vec_len}
use Rattle.query_run.specs.Several.{HaveEndedFrom}
use Rattle.query_run.proofs.several.end_first.Given as goal

abbrev pub invariant-loop-ops : goal.invariant-loop-ops
invariant-loop-ops g l =
    (l.ops.items ≡ take (length l.ops.items) l.initial.ops.items)
    × (vec_len l.ops ≤ vec_len l.initial.ops)
    × HaveEndedFrom g.St.Store (vec_len l.ops) l.initial.stores l.stores l.initial.ops.items

abbrev pub decreases-loop-ops : goal.decreases-loop-ops
decreases-loop-ops g l = vec_len l.ops
