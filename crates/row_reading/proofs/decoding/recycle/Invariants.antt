use Rattle.std.proofs.Common.{length}
use Rattle.row_reading.proofs.decoding.recycle.Given as goal

abbrev pub decreases-loop-value : goal.decreases-loop-value
decreases-loop-value l = length l.values.items
