use Rattle.std.proofs.Common.{◌≡◌, ◌≤◌, ◌+◌, length}
use Rattle.std.specs.Io.KnownBytes.{prepend_known}
use Rattle.csv_edge.specs.Rows.{CountsBytes}
use Rattle.csv_edge.proofs.Filling.{Filling}
use Rattle.csv_edge.proofs.piece.fill_piece.Given as goal

abbrev pub invariant-loop-intake : goal.invariant-loop-intake
invariant-loop-intake g l =
    Filling (prepend_known l.initial.intake.ahead (g.S.Source.remaining l.initial.src)) (prepend_known l.intake.ahead (g.S.Source.remaining l.src)) l.initial.piece.items l.piece.items l.scan
    × (length l.initial.piece.items + (l.initial.intake.allowed + length l.initial.intake.ahead) ≡ length l.piece.items + (l.intake.allowed + length l.intake.ahead))
    × CountsBytes l.initial.intake.allowed (g.S.Source.remaining l.initial.src) l.intake.allowed (g.S.Source.remaining l.src)
    × (g.S.Source.faults l.initial.src ≤ g.S.Source.faults l.src)

abbrev pub decreases-loop-intake : goal.decreases-loop-intake
decreases-loop-intake g l = l.intake.allowed + length l.intake.ahead
