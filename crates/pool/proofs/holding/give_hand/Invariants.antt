use Rattle.pool.specs.Taking.{made_since}
use Rattle.pool.proofs.holding.give_hand.Given as goal

abbrev pub ghosts-leave_made : goal.ghosts-leave_made
ghosts-leave_made g a = record { entries = made_since a._session a.seat.now.knows.seen (record { trail = a.shared.trail; counts = a.shared.counts }) }
