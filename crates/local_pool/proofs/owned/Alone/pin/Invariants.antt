use Rattle.std.proofs.Common.{None, false}
use Rattle.session_calls.specs.Outgoing.{no_tally}
use Rattle.local_pool.specs.Told.{opening_of, outset_of}
use Rattle.local_pool.proofs.owned.Alone.pin.Given as goal

abbrev pub ghosts-pin : goal.ghosts-pin
ghosts-pin g a = record { opening = opening_of g.D.Slot a.hand; outset = outset_of g.D.Slot a.hand.state; first = no_tally; named = false; table = None }
