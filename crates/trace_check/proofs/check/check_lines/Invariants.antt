use Rattle.std.proofs.Common.{length}
use Rattle.trace_check.specs.Underway.{IsUnderway}
use Rattle.trace_check.proofs.check.check_lines.Given as goal

abbrev pub invariant-lines : goal.invariant-lines
invariant-lines l = IsUnderway l._bytes l.follower l.entries l.rest

abbrev pub decreases-lines : goal.decreases-lines
decreases-lines l = length l.rest
