use Rattle.csv.specs.Records.{fields_of}
use Rattle.csv_edge.proofs.Readers.{read_end, read_more, read_sound}
use Rattle.csv_edge.proofs.record_reader.read_record.Goals as goal

pub returns-clause-sound : goal.returns-clause-sound
returns-clause-sound c =
    let h = c.requires in
    read_sound c.args.reader.now c.read_byte_record.new.self c.in-Ok.found (fields_of c.read_byte_record.new.row) h (c.in-Ok.ensures.ready h.plain) (c.in-Ok.ensures.reads h.plain h.ready)

pub returns-clause-more : goal.returns-clause-more
returns-clause-more c = λ yes.
    let h = c.requires in
    read_more c.args.reader.now c.read_byte_record.new.self (fields_of c.read_byte_record.new.row) h (rw yes at (c.in-Ok.ensures.reads h.plain h.ready))

pub returns-clause-end : goal.returns-clause-end
returns-clause-end c = λ none.
    let h = c.requires in
    read_end c.args.reader.now c.read_byte_record.new.self (fields_of c.read_byte_record.new.row) h (rw none at (c.in-Ok.ensures.reads h.plain h.ready))
