use Rattle.std.proofs.Common.{◌≡◌}
use Rattle.turn_table.specs.Knowledge.{IsIdle}
use Rattle.turn_table.proofs.tests.ledger.deposit_often.Given as goal

abbrev pub invariant-loop : goal.invariant-loop
invariant-loop g l = (l.seat.table ≡ l.turns) × IsIdle l.seat.knows × (l.seat.knows.role ≡ l.fn.seat.knows.role) × (l.seat.knows.rights ≡ l.fn.seat.knows.rights)
