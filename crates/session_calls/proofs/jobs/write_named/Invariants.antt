use Rattle.std.specs.Prelude.{◌∷◌, []}
use Rattle.scratch_dev.specs.Rows.{faults_of}
use Rattle.pin_core.specs.calls.Returning.{write_entry}
use Rattle.session_calls.proofs.jobs.write_named.Given as goal

abbrev pub ghosts-enter_write : goal.ghosts-enter_write
ghosts-enter_write g a = record { entries = write_entry a.job.now g.B.Before.sum (faults_of g.D.Slot a.job.now.row) ∷ [] }
