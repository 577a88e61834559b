use Rattle.scratch_dev.specs.Rows.{faults_of}
use Rattle.session_calls.proofs.jobs.read_back.Given as goal

abbrev pub ghosts-read_named : goal.ghosts-read_named
ghosts-read_named g a = record { sum = faults_of g.D.Slot a.job.row }
