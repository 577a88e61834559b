use Rattle.reservation_tree.proofs.tree.Tree.+rise.Given as goal

abbrev pub decreases-rise : goal.decreases-rise
decreases-rise l = l.levels
