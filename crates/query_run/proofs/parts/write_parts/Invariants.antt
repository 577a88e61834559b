use Rattle.std.proofs.Common.{◌≡◌, length}
use Rattle.query_run.specs.Parts.{HasSent}
use Rattle.query_run.proofs.parts.write_parts.Given as goal

abbrev pub invariant-loop-left : goal.invariant-loop-left
invariant-loop-left g l =
    HasSent (g.K.Sink.contents l.initial.sink) (g.K.Sink.contents l.sink) l.left l.text × (g.K.Sink.faults l.sink ≡ g.K.Sink.faults l.initial.sink)
    × (g.K.Sink.at_failure l.sink ≡ g.K.Sink.at_failure l.initial.sink)

abbrev pub decreases-loop-left : goal.decreases-loop-left
decreases-loop-left g l = length l.left
