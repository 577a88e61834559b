use Rattle.std.proofs.Common.{rules, sym, SFits}
use Rattle.std.specs.Int.{w128}
use Rattle.std.proofs.lemmas.Int.{to_z-of_z}
use Rattle.row_codec.proofs.Fields.{wide_there}
use Rattle.row_reading.proofs.decoding.decode_field.Goals as goal

pub returns-in-Some-split_first_chunk : goal.returns-in-Some-split_first_chunk
returns-in-Some-split_first_chunk c =
    let fits : SFits w128 c.from_be_bytes-in-Wide.result = search rules in
    let there = c.in-Some-split_first_chunk in
    let read = wide_there c.args.bytes.now there.head.now there.rest.now c.from_be_bytes-in-Wide.result there.ensures.cases.0 there.ensures.cases.1 there.ensures.cases.2 c.from_be_bytes-in-Wide.ensures in
    record { reads = rw c.in-Wide.is (simp to_z-of_z (sym read)) }
