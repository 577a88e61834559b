use Rattle.turn_table.proofs.turns.Turns.split.Given as goal

abbrev pub ghosts-split_by : goal.ghosts-split_by
ghosts-split_by g a = record { right = a._right }
