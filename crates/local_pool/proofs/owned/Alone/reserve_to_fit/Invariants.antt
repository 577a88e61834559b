use Rattle.std.proofs.Common.{None, false}
use Rattle.session_calls.specs.Outgoing.{no_tally}
use Rattle.local_pool.specs.Told.{opening_of, outset_of}
use Rattle.local_pool.proofs.owned.Alone.reserve_to_fit.Given as goal

abbrev pub ghosts-reserve_to_fit : goal.ghosts-reserve_to_fit
ghosts-reserve_to_fit g a = record { opening = opening_of g.D.Slot a.self.now; outset = outset_of g.D.Slot a.self.now.state; first = no_tally; named = false; table = None }
