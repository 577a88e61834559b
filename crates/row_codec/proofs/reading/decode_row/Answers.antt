use Rattle.std.proofs.Common.{◌≡◌, ◌+◌, length, sym, rules}
use Rattle.std.specs.Prelude.{Some, None}
use Rattle.row_codec.specs.RowReading.{row_at}
use Rattle.row_codec.proofs.ReadBack.{from_places, none_begins, row_begins}
use Rattle.row_codec.proofs.reading.decode_row.Goals as goal

pub returns-in_default-clause-none : goal.returns-in_default-clause-none
unfolding row_at
returns-in_default-clause-none c =
    let nothing : None ≡ row_at c.args.kinds.now c.args.bytes.now = search rules in
    none_begins c.args.kinds.now c.args.bytes.now (sym nothing)

pub returns-in_default-2-clause-none : goal.returns-in_default-2-clause-none
unfolding row_at
returns-in_default-2-clause-none c =
    let nothing : None ≡ row_at c.args.kinds.now c.args.bytes.now = search rules in
    none_begins c.args.kinds.now c.args.bytes.now (sym nothing)

pub returns-clause-row : goal.returns-clause-row
unfolding row_at
returns-clause-row c =
    let read : Some (c.in-Some-2.row.items, 4 + length c.in-Some.body.now) ≡ row_at c.args.kinds.now c.args.bytes.now = search rules in
    row_begins c.args.kinds.now c.args.bytes.now _ (from_places c.args.bytes.now (λ i. (c.type_inv.bytes i).fits)) (sym read)
