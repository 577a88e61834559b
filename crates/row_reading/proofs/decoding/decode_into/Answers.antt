use Rattle.row_codec.proofs.ReadBack.{from_places}
use Rattle.row_reading.proofs.Bodies.{has_body, if_ok, row_found, row_missed, told, values_found}
use Rattle.row_reading.proofs.decoding.decode_into.Goals as goal

pub returns-in_default-clause-found : goal.returns-in_default-clause-found
returns-in_default-clause-found c is = absurd (has_body c.args.kinds.now c.args.row.now is c.in_default.ensures.none)

pub returns-clause-values : goal.returns-clause-values
returns-clause-values c =
    let body = c.in-Some.ensures.some in
    if_ok c.decode_fields.result (λ found reads so. values_found c.args.kinds.now c.args.row.now c.in-Some.body.now body.0 body.1 body.2 c.decode_fields.new.values.items (reads so))
    c.decode_fields.ensures.reads

pub returns-clause-row : goal.returns-clause-row
returns-clause-row c =
    let body = c.in-Some.ensures.some in
    if_ok c.decode_fields.result (λ found reads so. row_found c.args.kinds.now c.args.row.now c.in-Some.body.now body.0 body.1 body.2 c.decode_fields.new.values.items (from_places c.args.row.now (λ i. (c.type_inv.row i).fits)) (reads so))
    c.decode_fields.ensures.reads

pub returns-clause-found : goal.returns-clause-found
returns-clause-found c =
    let body = c.in-Some.ensures.some in
    if_ok c.decode_fields.result (λ found none is. told found none (row_missed c.args.kinds.now c.args.row.now c.in-Some.body.now body.0 body.1 body.2) is)
    c.decode_fields.ensures.none
