use Rattle.std.proofs.Common.{◌≡◌, ◌≤◌, length, vec_capacity, vec_len}
use Rattle.query_run.specs.Several.{HaveStartedTo}
use Rattle.query_run.proofs.several.start_groupings.Given as goal

abbrev pub invariant-loop-place : goal.invariant-loop-place
invariant-loop-place g l =
    (vec_len l.ops ≡ l.place)
    × (length l.initial.stores ≤ vec_capacity l.ops)
    × HaveStartedTo g.St.Store l.plan l.place l.initial.stores l.stores l.ops.items
