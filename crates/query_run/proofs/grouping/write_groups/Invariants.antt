use Rattle.std.proofs.Common.{length}
use Rattle.std.specs.List.{range_with_len}
use Rattle.outside.specs.Faults.{faults_of}
use Rattle.query_run.proofs.grouping.write_groups.Given as goal

abbrev pub ghosts-drive : goal.ghosts-drive
ghosts-drive g a = record {
  before = record {
    contents = g.K.Sink.contents a.lines.sink.now;
    faults = faults_of g.K.Sink a.lines.sink.now;
    front = a.lines.part.lines;
    columns = range_with_len (length a.op.now.shape.keys) (length a.op.now.shape.aggs);
  };
  name = a.lines.sink.ghost_name;
}
