use Rattle.std.proofs.Common.{◌≡◌, ◌++◌, ◌/◌, ◌%◌, ◌^◌, replicate, ◌∙◌, ap, rules, SFits}
use borrow.Rule.Slice.PartMut.{put_mid}
use Rattle.std.specs.Int.{w64, w128, to_be_bytes, to_le_bytes}
use Rattle.std.proofs.lemmas.Int.{to_z-of_z}
use Rattle.bucket_table.proofs.Spelling.{spelled_turned}
use Rattle.group_op.proofs.spelling.spelled.Goals as goal

pub returns : goal.returns
returns c =
    let fits : SFits w128 c.args.number = search rules in
    let n = c.swap_bytes-turned.result in
    let first : c.copy_from_slice.new.self ≡ to_le_bytes w64 (n % 2 ^ 64) = c.copy_from_slice.ensures.after ∙ c.to_le_bytes-first.ensures in
    let last : c.copy_from_slice-2.new.self ≡ to_le_bytes w64 (n / 2 ^ 64) = c.copy_from_slice-2.ensures.after ∙ c.to_le_bytes-last.ensures in
    (λ i. put_mid 8 8 (first i ++ replicate 8 0) (last i)) ∙ spelled_turned c.cast_unsigned.result n c.swap_bytes-turned.ensures ∙ ap (to_be_bytes w128) (simp to_z-of_z at c.cast_unsigned.ensures)
