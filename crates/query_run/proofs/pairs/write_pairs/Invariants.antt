use Rattle.std.proofs.Common.{[]}
use Rattle.outside.specs.Faults.{faults_of}
use Rattle.query_run.proofs.pairs.write_pairs.Given as goal

abbrev pub ghosts-drive_pairs : goal.ghosts-drive_pairs
ghosts-drive_pairs g a = record {
  before = record { contents = g.K.Sink.contents a.lines.sink.now; faults = faults_of g.K.Sink a.lines.sink.now; front = a.lines.part.lines; columns = [] };
  name = a.lines.sink.ghost_name;
}
