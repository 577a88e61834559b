use Rattle.std.proofs.Common.{◌≤◌, ◌+◌, length}
use Rattle.csv_edge.specs.Inside.{records_told}
use Rattle.csv_edge.specs.Rows.{Becomes, CountsBytes}
use Rattle.csv_edge.proofs.records.Records.next.Given as goal

abbrev pub invariant-loop-self : goal.invariant-loop-self
invariant-loop-self g l =
    Becomes (λ rs. rs) (records_told l.initial.self (g.S.Source.remaining l.initial.src)) (records_told l.self (g.S.Source.remaining l.src))
    × CountsBytes l.initial.self.taken.allowed (g.S.Source.remaining l.initial.src) l.self.taken.allowed (g.S.Source.remaining l.src)
    × (g.S.Source.faults l.initial.src ≤ g.S.Source.faults l.src)

abbrev pub decreases-loop-self : goal.decreases-loop-self
decreases-loop-self g l = l.self.taken.allowed + length l.self.taken.ahead
