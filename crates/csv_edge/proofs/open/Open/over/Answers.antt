use Rattle.std.proofs.Common.{◌≡◌, Some, rules}
use Rattle.csv.specs.Records.{fields_of}
use Rattle.csv_edge.specs.Typed.{places_of}
use Rattle.csv_edge.proofs.RowKinds.{placed_kinds}
use Rattle.csv_edge.proofs.open.Open.over.Goals as goal

pub returns-clause-kinds : goal.returns-clause-kinds
returns-clause-kinds g c =
    let placed : places_of (fields_of c.next.new.byte_record) c.args.columns.now ≡ Some c.in-Some.columns.items = search rules in
    placed_kinds (fields_of c.next.new.byte_record) c.args.columns.now c.in-Some.columns.items placed
