use Rattle.std.proofs.Common.{None, false}
use Rattle.session_calls.specs.Outgoing.{no_tally}
use Rattle.local_pool.specs.Told.{opening_of, outset_of}
use Rattle.local_pool.proofs.owned.Alone.unpin_once.Given as goal

abbrev pub ghosts-unpin_once : goal.ghosts-unpin_once
ghosts-unpin_once g a = record { opening = opening_of g.D.Slot a.self.now; outset = outset_of g.D.Slot a.self.now.state; first = no_tally; named = false; table = None }
