use Rattle.std.proofs.Common.{◌≡◌, rules}
use Rattle.csv_edge.proofs.Cuts.{becomes_next, cuts_next, no_bytes, none_left}
use Rattle.csv_edge.specs.Inside.{records_behind}
use Rattle.csv_edge.proofs.records.Records.next_piece.Goals as goal

pub returns-clause-records : goal.returns-clause-records
returns-clause-records g c =
    let cuts = cuts_next _ _ _ _ c.clear.ensures.items c.in_ok-fill_piece.ensures.fills in
    rw (← c.self.view_is) (becomes_next (record { records = records_behind c.reader_of-2.result; taken = c.fill_piece.new.intake }) _ _ _ c.reader_of-2.ensures.records cuts)

pub returns-clause-none : goal.returns-clause-none
returns-clause-none g c = λ none.
    let cuts = cuts_next _ _ _ _ c.clear.ensures.items c.in_ok-fill_piece.ensures.fills in
    let zero : c.fill_piece.new.piece.len ≡ 0 = search rules in
    rw (← c.self.view_is) (none_left _ _ _ cuts (no_bytes c.fill_piece.new.piece.len c.fill_piece.new.piece.items c.fill_piece.new.piece.ok.0 zero))

pub returns-clause-end : goal.returns-clause-end
returns-clause-end g c = λ none.
    let zero : c.fill_piece.new.piece.len ≡ 0 = search rules in
    c.in_ok-fill_piece.ensures.end (no_bytes c.fill_piece.new.piece.len c.fill_piece.new.piece.items c.fill_piece.new.piece.ok.0 zero)
