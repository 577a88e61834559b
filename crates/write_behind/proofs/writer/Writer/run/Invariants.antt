use Rattle.std.proofs.Common.{◌≡◌}
use Rattle.write_behind.proofs.writer.Writer.run.Given as goal

-- each try keeps the writer's number and its lock
abbrev pub invariant-loop : goal.invariant-loop
invariant-loop g l =
    (goal.iterator-loop g).can_next l.iterator' × (goal.iterator-loop g).is_finite l.iterator'
    × (l.self.seat.number ≡ l.fn.self.seat.number) × (l.self.seat.spot.table ≡ l.fn.self.seat.spot.table)
