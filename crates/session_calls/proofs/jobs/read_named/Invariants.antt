use Rattle.std.specs.Prelude.{◌∷◌, []}
use Rattle.scratch_dev.specs.Rows.{faults_of}
use Rattle.session_calls.specs.Jobs.{ended_load}
use Rattle.session_calls.proofs.jobs.read_named.Given as goal

abbrev pub ghosts-enter_load : goal.ghosts-enter_load
ghosts-enter_load g a = record { entries = ended_load a.session a.job.now g.B.Before.sum (faults_of g.D.Slot a.job.now.row) ∷ [] }
