use Rattle.local_pool.specs.Shelving.{counted_since, entered_since}
use Rattle.local_pool.proofs.sole.Shelf.see.Given as goal

abbrev pub ghosts-see_trail : goal.ghosts-see_trail
ghosts-see_trail g a = record { entries = entered_since a.seen.now a._hand.now.trail }

abbrev pub ghosts-see_counts : goal.ghosts-see_counts
ghosts-see_counts g a = record { entries = counted_since a.counted.now a._hand.now.counts }
