use Rattle.std.specs.Prelude.{◌∷◌, []}
use Rattle.session_calls.specs.Flying.{end_of}
use Rattle.session_calls.proofs.hand.Hand.take_page.Given as goal

abbrev pub ghosts-enter_end : goal.ghosts-enter_end
ghosts-enter_end g a = record { entries = record { maker = a.job.now.who; event = end_of g.D.Slot (record { trail = a.trail.now; counts = a._counts.now }) a.job.now } ∷ [] }
