use Rattle.std.proofs.Common.{◌≡◌, ◌==◌, ◌||◌, ◌&&◌, ◌++◌, map, take, not}
use Rattle.csv.specs.Writing.{is_blank, row_body, writer_setup, fields_written, has_written}
use Rattle.csv_edge.specs.Lines.{text_of}
use Rattle.csv_edge.specs.Writer.{lines_setup, text_in}
use Rattle.csv_edge.proofs.writing.write_row.Given as goal

abbrev pub invariant-loop-value : goal.invariant-loop-value
invariant-loop-value l = (writer_setup l.writer ≡ lines_setup)
    × (text_in l.writer ≡ text_in l.fn.writer ++ row_body lines_setup (take l.value-index (map text_of l.row)))
    × (fields_written l.writer ≡ l.value-index)
    × (is_blank lines_setup (take l.value-index (map text_of l.row)) ≡ (not (has_written l.writer) && ((l.value-index == 0) || (l.value-index == 1))))
