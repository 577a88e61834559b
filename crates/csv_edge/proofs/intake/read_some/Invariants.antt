use Rattle.std.proofs.Common.{◌≡◌, ◌≤◌, ◌+◌, ◌-◌, length, take}
use Rattle.std.specs.Io.KnownBytes.{Consumes}
use Rattle.csv_edge.proofs.intake.read_some.Given as goal

abbrev pub invariant-loop-end : goal.invariant-loop-end
invariant-loop-end g l = (l.end ≤ length l.buffer)
    × Consumes (g.S.Source.remaining l.initial.src) (g.S.Source.remaining l.src) (take l.end l.buffer)
    × (l.initial.allowed ≡ l.allowed + l.end)
    × (g.S.Source.faults l.initial.src ≤ g.S.Source.faults l.src)

abbrev pub decreases-loop-end : goal.decreases-loop-end
decreases-loop-end g l = l.wanted - l.end
