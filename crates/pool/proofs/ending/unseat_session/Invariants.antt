use Rattle.pin_core.specs.StateOf.{state_of}
use Rattle.pool.specs.Seating.{ending_items}
use Rattle.pool.proofs.ending.unseat_session.Given as goal

abbrev pub ghosts-leave_ended : goal.ghosts-leave_ended
ghosts-leave_ended g a = record { entries = ending_items (state_of a.shared.state) a.number }
