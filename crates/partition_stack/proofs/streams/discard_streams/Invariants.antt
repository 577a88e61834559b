use Rattle.std.proofs.Common.{length}
use Rattle.partition_stack.specs.Stack.{HaveNoPages}
use Rattle.partition_stack.proofs.streams.discard_streams.Given as goal

abbrev pub invariant-loop-streams : goal.invariant-loop-streams
invariant-loop-streams l = HaveNoPages l.streams.items

abbrev pub decreases-loop-streams : goal.decreases-loop-streams
decreases-loop-streams l = length l.streams.items
