use Rattle.std.specs.Prelude.{◌∷◌, []}
use Rattle.pin_core.specs.Tallies.{tally_of}
use Rattle.session_calls.specs.declared.count.Count.TheVariants.{Opening}
use Rattle.session_calls.proofs.count.count_opening.Given as goal

abbrev pub ghosts-enter_opening : goal.ghosts-enter_opening
ghosts-enter_opening g a = record { entries = Opening (tally_of g.D.Slot a._slots.now) ∷ [] }
