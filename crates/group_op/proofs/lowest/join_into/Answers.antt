use Rattle.std.proofs.Common.{rules, ◌≡◌, ◌+◌, ◌-◌, ◌*◌, ◌<◌, ℕ, ℤ, List, length, pos, get_or, ap, ap₂, sym, ◌∙◌, arith}
use Rattle.std.specs.Prelude.{FitsSigned}
use Rattle.std.specs.Int.{w128, cast_signed, cast_unsigned}
use Rattle.std.proofs.lemmas.Int.{to_z-of_z}
use Rattle.row_codec.specs.declared.values.Agg.{Agg}
use Rattle.row_codec.specs.declared.values.Agg.TheVariants.{Count}
use Rattle.row_codec.specs.RowReading.{number_in}
use Rattle.bucket_table.specs.Tables.{part_of, with_number}
use Rattle.group_rows.specs.Aggregates.{combined_number}
use Rattle.group_rows.proofs.Entries.{half}
use Rattle.group_op.specs.Stored.{head_len, numbers_at}
use Rattle.group_op.proofs.Joins.{all_joined, entry_number, half_room, next_fit, next_joined, none_fit, none_joined, room_in_row, row_number}
use Rattle.group_op.proofs.lowest.join_into.Goals as goal

pub overflow_sub-head : goal.overflow_sub-head
overflow_sub-head c =
    let room : length c.args.row.now ≡ head_len c.args.shape.now c.args.row.now + 16 * length c.args.shape.now.aggs = room_in_row c.args.shape.now c.args.row.now c.requires.row in
    let aggs : length c.as_slice-aggs.result.now ≡ length c.args.shape.now.aggs = ap length c.as_slice-aggs.ensures in
    omega (arith, room, aggs)

pub loop-k-init : goal.loop-k-init
loop-k-init c =
    record {
      entry = sym (none_joined c.law_row_back.ensures.law c.args.shape.now c.args.entry.now c.args.row.now c.requires.shape c.requires.entry c.requires.row c.requires.key);
      fit = none_fit c.law_row_back.ensures.law c.args.shape.now c.args.entry.now c.args.row.now c.requires.shape c.requires.entry c.requires.row c.requires.key;
    }

pub wide_at-requires : goal.wide_at-requires
wide_at-requires c =
    let room : length c.args.row.now ≡ head_len c.args.shape.now c.args.row.now + 16 * length c.args.shape.now.aggs = room_in_row c.args.shape.now c.args.row.now c.requires.row in
    let aggs : length c.as_slice-aggs.result.now ≡ length c.args.shape.now.aggs = ap length c.as_slice-aggs.ensures in
    let long : length c.loop-k.entry ≡ head_len c.args.shape.now c.args.row.now + 16 * length c.args.shape.now.aggs = ap length c.loop-k.invariant.entry ∙ half_room c.law_row_back.ensures.law c.args.shape.now c.args.entry.now c.args.row.now c.requires.shape c.requires.entry c.requires.row c.requires.key c.loop-k.k in
    let below = c.loop-k-test.true in
    omega (arith, room, aggs, long, below)

pub wide_at-requires-in-loop-k : goal.wide_at-requires-in-loop-k
wide_at-requires-in-loop-k c =
    let room : length c.args.row.now ≡ head_len c.args.shape.now c.args.row.now + 16 * length c.args.shape.now.aggs = room_in_row c.args.shape.now c.args.row.now c.requires.row in
    let aggs : length c.as_slice-aggs.result.now ≡ length c.args.shape.now.aggs = ap length c.as_slice-aggs.ensures in
    let below = c.loop-k-test.true in
    omega (arith, room, aggs, below)

pub set_wide_at-requires : goal.set_wide_at-requires
set_wide_at-requires c =
    let room : length c.args.row.now ≡ head_len c.args.shape.now c.args.row.now + 16 * length c.args.shape.now.aggs = room_in_row c.args.shape.now c.args.row.now c.requires.row in
    let aggs : length c.as_slice-aggs.result.now ≡ length c.args.shape.now.aggs = ap length c.as_slice-aggs.ensures in
    let long : length c.loop-k.entry ≡ head_len c.args.shape.now c.args.row.now + 16 * length c.args.shape.now.aggs = ap length c.loop-k.invariant.entry ∙ half_room c.law_row_back.ensures.law c.args.shape.now c.args.entry.now c.args.row.now c.requires.shape c.requires.entry c.requires.row c.requires.key c.loop-k.k in
    let below = c.loop-k-test.true in
    omega (arith, room, aggs, long, below)

pub loop-k-preserved : goal.loop-k-preserved
loop-k-preserved c =
    let room : length c.args.row.now ≡ head_len c.args.shape.now c.args.row.now + 16 * length c.args.shape.now.aggs = room_in_row c.args.shape.now c.args.row.now c.requires.row in
    let aggs : length c.as_slice-aggs.result.now ≡ length c.args.shape.now.aggs = ap length c.as_slice-aggs.ensures in
    let at : ℕ = length c.args.row.now - 16 * length c.as_slice-aggs.result.now + 16 * c.loop-k.k in
    let inside : c.loop-k.k < length c.args.shape.now.aggs = (let below = c.loop-k-test.true in omega (arith, aggs, below)) in
    let at_is : length c.args.row.now - 16 * length c.as_slice-aggs.result.now + 16 * c.loop-k.k ≡ head_len c.args.shape.now c.args.row.now + 16 * c.loop-k.k = omega (arith, room, aggs) in
    let sum_fits : FitsSigned w128 c.combined-sum.result = search rules in
    let entry_fits : FitsSigned w128 c.cast_signed-held.result = search rules in
    let row_fits : FitsSigned w128 c.cast_signed.result = search rules in
    let first : cast_signed w128 (cast_unsigned w128 c.cast_signed-held.result) ≡ get_or (half c.loop-k.k c.args.shape.now.aggs (numbers_at c.args.shape.now c.args.entry.now) (numbers_at c.args.shape.now c.args.row.now)) c.loop-k.k (pos 0) =
    to_z-of_z w128 c.cast_signed-held.result entry_fits ∙ c.cast_signed-held.ensures ∙ ap (cast_signed w128) c.wide_at.ensures
    ∙ ap (λ (row : List ℕ). cast_signed w128 (number_in (part_of at 16 row))) c.loop-k.invariant.entry ∙ entry_number c.law_row_back.ensures.law c.args.shape.now c.args.entry.now c.args.row.now c.requires.shape c.requires.entry c.requires.row c.requires.key c.loop-k.k at inside at_is c.loop-k.invariant.fit in
    let second : cast_signed w128 (cast_unsigned w128 c.cast_signed.result) ≡ get_or (numbers_at c.args.shape.now c.args.row.now) c.loop-k.k (pos 0) =
    to_z-of_z w128 c.cast_signed.result row_fits ∙ c.cast_signed.ensures ∙ ap (cast_signed w128) c.wide_at-in-loop-k.ensures ∙ row_number c.law_row_back.ensures.law c.args.shape.now c.args.entry.now c.args.row.now c.requires.shape c.requires.entry c.requires.row c.requires.key c.loop-k.k at inside at_is in
    let sum_is : c.combined-sum.result ≡ combined_number (get_or c.args.shape.now.aggs c.loop-k.k Count) (get_or (half c.loop-k.k c.args.shape.now.aggs (numbers_at c.args.shape.now c.args.entry.now) (numbers_at c.args.shape.now c.args.row.now)) c.loop-k.k (pos 0)) (get_or (numbers_at c.args.shape.now c.args.row.now) c.loop-k.k (pos 0)) =
    c.combined-sum.ensures
    ∙ ap (λ (aggs : List Agg). combined_number (get_or aggs c.loop-k.k Count) (cast_signed w128 (cast_unsigned w128 c.cast_signed-held.result)) (cast_signed w128 (cast_unsigned w128 c.cast_signed.result))) c.as_slice-aggs.ensures
    ∙ ap₂ (λ (a b : ℤ). combined_number (get_or c.args.shape.now.aggs c.loop-k.k Count) a b) first second in
    let put : c.cast_unsigned.result ≡ cast_unsigned w128 c.combined-sum.result = c.cast_unsigned.ensures ∙ ap (cast_unsigned w128) (to_z-of_z w128 c.combined-sum.result sum_fits) in
    record {
      entry =
          c.set_wide_at.ensures
          ∙ ap₂ (λ (n : ℕ) (row : List ℕ). with_number at n row) put c.loop-k.invariant.entry
          ∙ next_joined c.law_row_back.ensures.law c.args.shape.now c.args.entry.now c.args.row.now c.requires.shape c.requires.entry c.requires.row c.requires.key c.loop-k.k at inside at_is c.combined-sum.result sum_is;
      fit = next_fit c.law_row_back.ensures.law c.args.shape.now c.args.entry.now c.args.row.now c.requires.shape c.requires.entry c.requires.row c.requires.key c.loop-k.k at inside at_is c.combined-sum.result sum_is sum_fits c.loop-k.invariant.fit;
    }

pub returns : goal.returns
returns c =
    let aggs : length c.as_slice-aggs.result.now ≡ length c.args.shape.now.aggs = ap length c.as_slice-aggs.ensures in
    let end : c.loop-k.k ≡ length c.args.shape.now.aggs = (let over = c.loop-k-test.false in let under = c.loop-k.auto.k-end in omega (arith, aggs, over, under)) in
    c.loop-k.invariant.entry
    ∙ all_joined c.law_row_back.ensures.law c.args.shape.now c.args.entry.now c.args.row.now c.requires.shape c.requires.entry c.requires.row c.requires.key c.loop-k.k end
