use Rattle.std.proofs.Common.{◌≡◌, drop, length, take}
use Rattle.csv.specs.Records.{fields_of}
use Rattle.csv_edge.specs.Typed.{row_from}
use Rattle.csv_edge.proofs.Placing.{behind}
use Rattle.csv_edge.proofs.row.fill_row.Given as goal

abbrev pub invariant-loop-at : goal.invariant-loop-at
invariant-loop-at l = (length l.row.items ≡ length l.columns)
    × (row_from 0 l.columns (fields_of l.byte_record) ≡ behind (take l.at l.row.items) (row_from l.at (drop l.at l.columns) (fields_of l.byte_record)))
