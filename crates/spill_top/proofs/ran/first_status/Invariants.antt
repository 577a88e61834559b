use Rattle.std.proofs.Common.{◌≡◌, drop}
use Rattle.spill_top.specs.Ran.{first_status}
use Rattle.spill_top.proofs.ran.first_status.Given as goal

abbrev pub invariant-loop-ending : goal.invariant-loop-ending
invariant-loop-ending l = first_status l.ends ≡ first_status (drop l.ending-index l.ends)
