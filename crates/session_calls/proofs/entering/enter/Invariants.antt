use Rattle.std.specs.Prelude.{◌∷◌, []}
use Rattle.session_calls.proofs.entering.enter.Given as goal

abbrev pub ghosts-enter : goal.ghosts-enter
ghosts-enter a = record { entries = record { maker = a.maker; event = a.event.now } ∷ [] }
