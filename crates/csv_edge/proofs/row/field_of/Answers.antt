use Rattle.std.proofs.Common.{rules}
use Rattle.csv.specs.Records.{fields_of}
use Rattle.csv_edge.proofs.Places.{field-index}
use Rattle.csv_edge.proofs.row.field_of.Goals as goal

pub returns : goal.returns
returns c = rw (← field-index (fields_of c.args.byte_record.now) c.args.place) (search rules)
