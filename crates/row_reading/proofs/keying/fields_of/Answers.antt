use Rattle.std.proofs.Common.{◌≡◌, ◌∙◌, [], ◌==◌, Some, ap, eqb-true, length, sym}
use Rattle.row_codec.proofs.ReadBack.{from_places}
use Rattle.row_reading.specs.FieldParts.{behind_fields}
use Rattle.row_reading.proofs.Bodies.{has_body, row_found}
use Rattle.row_reading.proofs.Skipping.{all_read, is_none, is_rest, no_bytes}
use Rattle.row_reading.proofs.keying.fields_of.Goals as goal

pub returns-in_default-clause-none : goal.returns-in_default-clause-none
returns-in_default-clause-none c is = has_body c.args.kinds.now c.args.row.now is c.in_default.ensures.none

pub returns-in_default-behind_fields-clause-none : goal.returns-in_default-behind_fields-clause-none
returns-in_default-behind_fields-clause-none c is =
    is_none c.args.kinds.now c.args.row.now is c.in-Some.body.now c.in-Some.ensures.some.0 c.in_default-behind_fields.ensures

pub returns-then-not-is_empty-clause-none : goal.returns-then-not-is_empty-clause-none
returns-then-not-is_empty-clause-none c is =
    let ended = is_rest c.args.kinds.now c.args.row.now is c.in-Some.body.now c.in-Some-behind_fields.rest.now c.in-Some.ensures.some.0 c.in-Some-behind_fields.ensures in
    absurd (let same = c.if-not-is_empty.ensures ∙ ap (λ bytes. length bytes == 0) ended in cc)

pub returns-clause-some : goal.returns-clause-some
returns-clause-some c =
    let body = c.in-Some.ensures.some in
    let ended : c.in-Some-behind_fields.rest.now ≡ [] = no_bytes c.in-Some-behind_fields.rest.now (eqb-true _ _ (sym c.if-not-is_empty.ensures)) in
    let found : behind_fields c.args.kinds.now c.in-Some.body.now ≡ Some [] = sym c.in-Some-behind_fields.ensures ∙ ap Some ended in
    let read = all_read c.args.kinds.now c.in-Some.body.now found in
    (body.0, row_found c.args.kinds.now c.args.row.now c.in-Some.body.now body.0 body.1 body.2 read.0 (from_places c.args.row.now (λ i. (c.type_inv.row i).fits)) read.1)
