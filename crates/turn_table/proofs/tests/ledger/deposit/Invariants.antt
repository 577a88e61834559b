use Rattle.std.proofs.Common.{[], ◌∷◌}
use Rattle.turn_table.proofs.tests.ledger.deposit.Given as goal

abbrev pub ghosts-put_back : goal.ghosts-put_back
ghosts-put_back g a = record { entries = (a.by, a.amount) ∷ [] }
