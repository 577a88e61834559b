use Rattle.std.proofs.Common.{◌≡◌, ◌+◌, ◌^◌, ◌-◌, length, min, rules, arith}
use Rattle.std.specs.Prelude.{fold}
use Rattle.row_codec.specs.RowBytes.{field_bytes, row_bytes}
use Rattle.row_codec.proofs.Lengths.{saturated}
use Rattle.row_codec.proofs.spelling.encoded_len.Goals as goal

pub returns : goal.returns
unfolding row_bytes
returns c =
    let sum : c.fold.result ≡ fold (λ n v. min (n + length (field_bytes v)) (2 ^ 64 - 1)) 4 c.args.row.now = search rules in
    let whole = saturated field_bytes (2 ^ 64 - 1) 4 c.args.row.now (omega arith) in
    record { len = omega arith }
