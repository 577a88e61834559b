use Rattle.std.proofs.Common.{◌≡◌, ◌++◌, ◌/◌, ◌%◌, ◌^◌, replicate, ◌∙◌}
use borrow.Rule.Slice.PartMut.{put_mid}
use Rattle.std.specs.Int.{w64, to_le_bytes}
use Rattle.bucket_table.proofs.Spelling.{spelled_turned}
use Rattle.bucket_table.proofs.numbers.spelling_of.Goals as goal

pub returns : goal.returns
returns c =
    let n = c.swap_bytes-turned.result in
    let first : c.copy_from_slice.new.self ≡ to_le_bytes w64 (n % 2 ^ 64) = c.copy_from_slice.ensures.after ∙ c.to_le_bytes-first.ensures in
    let last : c.copy_from_slice-2.new.self ≡ to_le_bytes w64 (n / 2 ^ 64) = c.copy_from_slice-2.ensures.after ∙ c.to_le_bytes-last.ensures in
    (λ i. put_mid 8 8 (first i ++ replicate 8 0) (last i)) ∙ spelled_turned c.args.value n c.swap_bytes-turned.ensures
