use Rattle.std.proofs.Common.{◌≡◌, Ok, Err, rules}
use Rattle.csv.specs.Records.{fields_of}
use Rattle.csv_edge.specs.Typed.{row_from}
use Rattle.csv_edge.proofs.RowKinds.{int_named, row_kinds}
use Rattle.csv_edge.proofs.open.Open.next_row.Goals as goal

pub returns-in-Ok-clause-kinds : goal.returns-in-Ok-clause-kinds
returns-in-Ok-clause-kinds g c = λ found.
    let made : row_from 0 c.args.self.now.columns (fields_of c.next.new.byte_record) ≡ Ok c.fill_row.new.row.items = search rules in
    row_kinds 0 c.args.self.now.columns (fields_of c.next.new.byte_record) c.fill_row.new.row.items made

pub returns-in-Err-clause-field : goal.returns-in-Err-clause-field
returns-in-Err-clause-field g c =
    let made : row_from 0 c.args.self.now.columns (fields_of c.next.new.byte_record) ≡ Err c.in-Err.field-0.column = search rules in
    int_named c.args.self.now.columns (fields_of c.next.new.byte_record) c.in-Err.field-0.column made
