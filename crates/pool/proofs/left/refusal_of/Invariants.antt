use Rattle.std.proofs.Common.{◌≡◌, ◌-◌}
use Rattle.pool.specs.Remaining.{first_refusal}
use Rattle.pool.proofs.left.refusal_of.Given as goal

abbrev pub invariant-loop-i : goal.invariant-loop-i
invariant-loop-i l = first_refusal l.ask.count l.ask l.initial.left ≡ first_refusal (l.ask.count - l._i) l.ask l.left
