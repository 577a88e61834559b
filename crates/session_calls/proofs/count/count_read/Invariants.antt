use Rattle.std.specs.Prelude.{◌∷◌, []}
use Rattle.pin_core.specs.Tallies.{tally_of}
use Rattle.session_calls.specs.declared.count.Count.TheVariants.{Out}
use Rattle.session_calls.proofs.count.count_read.Given as goal

abbrev pub ghosts-enter_read_count : goal.ghosts-enter_read_count
ghosts-enter_read_count g a = record { entries = Out a._job.now.id.name (tally_of g.D.Slot a._job.now.row) ∷ [] }
