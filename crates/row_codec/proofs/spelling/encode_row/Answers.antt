use Rattle.std.proofs.Common.{◌++◌, ◌∙◌, ℕ, List, ap, take, append_assoc, arith}
use Rattle.std.specs.Prelude.{flat_map}
use Rattle.std.proofs.lemmas.List.{length-append}
use Rattle.row_codec.specs.Row.{IsValue}
use Rattle.row_codec.specs.RowBytes.{field_bytes, row_bytes}
use Rattle.row_codec.proofs.Lengths.{all_more, field_more, field_within}
use Rattle.row_codec.proofs.spelling.encode_row.Goals as goal

pub push_field-requires-clause-short : goal.push_field-requires-clause-short
unfolding row_bytes
push_field-requires-clause-short c =
    let within = field_within field_bytes c.args.row.now c.loop-value.value-index c.value-item.result c.loop-value-test.true c.value-item.is in
    omega arith

pub push_field-requires-clause-room : goal.push_field-requires-clause-room
push_field-requires-clause-room c =
    let within = field_within field_bytes c.args.row.now c.loop-value.value-index c.value-item.result c.loop-value-test.true c.value-item.is in
    omega arith

pub loop-value-preserved : goal.loop-value-preserved
loop-value-preserved c =
    let written : List ℕ = flat_map field_bytes (take c.loop-value.value-index c.args.row.now) in
    let this : List ℕ = field_bytes c.value-item.result in
    let more = field_more field_bytes c.args.row.now c.loop-value.value-index c.value-item.result c.loop-value-test.true c.value-item.is in
    let kept = c.loop-value.invariant in (
      rw more (c.push_field.ensures.items ∙ ap (λ items. items ++ this) kept.0 ∙ append_assoc c.push.new.out.items written this),
      rw more (omega (arith, length-append written this)),
      omega arith,
      all_more IsValue c.args.row.now c.loop-value.value-index c.value-item.result c.loop-value-test.true c.value-item.is kept.3 c.push_field.ensures.value,
    )
