use Rattle.scratch_dev.specs.Rows.{faults_of}
use Rattle.session_calls.proofs.jobs.write_out.Given as goal

abbrev pub ghosts-write_named : goal.ghosts-write_named
ghosts-write_named g a = record { sum = faults_of g.D.Slot a.job.row }
