use Rattle.std.proofs.Common.{◌≡◌, ◌∙◌, ◌*◌, Option, Some, None, IfNone, length, ap, sym}
use Rattle.row_codec.proofs.ReadBack.{from_places}
use Rattle.row_codec.specs.Order.{hash_of}
use Rattle.group_op.specs.KeyParts.{parts_at}
use Rattle.group_op.specs.Stored.{key_kinds}
use Rattle.group_op.proofs.KeyHashing.{hashed_some, none_counted}
use Rattle.group_op.proofs.KeyWalking.{found_of, key_here, many_here, not_none, row_here}
use Rattle.group_op.proofs.hashing.hash_of_partial.Goals as goal

any_none : {A P : Type 0} (o : Option A) → P → IfNone o P
any_none None p = p
any_none (Some x) p = tt

pub returns-in_err-body-clause-none : goal.returns-in_err-body-clause-none
returns-in_err-body-clause-none c =
    any_none c.from_residual.result (λ partial. let found = found_of c.law_row_back.ensures.law c.args.shape.now c.args.row.now partial in c.in_err-body.ensures.none found.0 found.1 found.2 found.3)

pub returns-in_err-hash-clause-none : goal.returns-in_err-hash-clause-none
returns-in_err-hash-clause-none c =
    any_none c.from_residual-in_err-hash.result
    (not_none c.law_row_back.ensures.law c.args.shape.now c.args.row.now c.in_ok-body.body.now c.in_ok-body.ensures.some.0 (none_counted (parts_at (key_kinds c.args.shape.now) c.in_ok-body.body.now) c.in_err-hash.ensures))

pub returns-then-left-as_slice-clause-none : goal.returns-then-left-as_slice-clause-none
returns-then-left-as_slice-clause-none c partial =
    let found = hashed_some (parts_at (key_kinds c.args.shape.now) c.in_ok-body.body.now) c.in_ok-hash.hash c.in_ok-hash.left c.in_ok-hash.ensures in
    c.if-left-as_slice.true
    (many_here c.law_row_back.ensures.law c.args.shape.now c.args.row.now c.in_ok-body.body.now c.in_ok-body.ensures.some.0 found.0 c.in_ok-hash.left found.1 partial ∙ ap (λ aggs. 16 * length aggs) (sym c.as_slice.ensures))

pub returns-clause-row : goal.returns-clause-row
returns-clause-row c =
    let body = c.in_ok-body.ensures.some in
    let found = hashed_some (parts_at (key_kinds c.args.shape.now) c.in_ok-body.body.now) c.in_ok-hash.hash c.in_ok-hash.left c.in_ok-hash.ensures in
    let many : c.in_ok-hash.left ≡ 16 * length c.args.shape.now.aggs = c.if-left-as_slice.false ∙ ap (λ aggs. 16 * length aggs) c.as_slice.ensures in
    row_here c.law_row_back.ensures.law c.args.shape.now c.args.row.now c.in_ok-body.body.now body.0 found.0 c.in_ok-hash.left found.1 (from_places c.args.row.now (λ i. (c.type_inv.row i).fits)) body.1 body.2 many

pub returns-clause-hash : goal.returns-clause-hash
returns-clause-hash c =
    let found = hashed_some (parts_at (key_kinds c.args.shape.now) c.in_ok-body.body.now) c.in_ok-hash.hash c.in_ok-hash.left c.in_ok-hash.ensures in
    found.2 ∙ ap hash_of (key_here c.law_row_back.ensures.law c.args.shape.now c.args.row.now c.in_ok-body.body.now c.in_ok-body.ensures.some.0 found.0 c.in_ok-hash.left found.1 (returns-clause-row c))
