use Rattle.std.proofs.Common.{◌-◌, length, take, drop, ap, arith}
use Rattle.bucket_table.proofs.Ends.{ends_tell}
use Rattle.bucket_table.proofs.same.are_same.Goals as goal

pub returns-then-is_same_word : goal.returns-then-is_same_word
returns-then-is_same_word c =
    let a = c.args.a.now in
    let b = c.args.b.now in
    let at = length a - 8 in (
      (λ last. ends_tell a b at (omega arith) (omega arith) (omega arith) (c.is_same_word.ensures.0 c.if-is_same_word.true) (c.is_same_word-then-is_same_word.ensures.0 last)),
      (λ same. c.is_same_word-then-is_same_word.ensures.1 (ap (λ xs. take 8 (drop at xs)) same)),
    )
