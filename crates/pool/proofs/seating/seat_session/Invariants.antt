use Rattle.pin_core.specs.StateOf.{state_of}
use Rattle.pin_core.specs.calls.Sessions.{query_of}
use Rattle.pool.specs.Seating.{beginning_items}
use Rattle.pool.proofs.seating.seat_session.Given as goal

abbrev pub ghosts-leave_begun : goal.ghosts-leave_begun
ghosts-leave_begun g a = record { entries = beginning_items a._number (query_of (state_of a.shared.state) a._number) a._limit a._quota a._least }
