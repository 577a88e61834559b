use Rattle.std.proofs.Common.{◌≡◌, ◌<◌, ◌+◌, ◌-◌, ◌*◌, get_or, true, rules}
use Rattle.csv_edge.specs.Ints.{is_digit}
use Rattle.csv_edge.proofs.Digits.{digit_too_large}
use Rattle.spill_top.proofs.number.number_of.Goals as goal

pub returns-then-more-from : goal.returns-then-more-from
returns-then-more-from c =
    let digit : is_digit (get_or c.args.digits.now c.loop-byte.byte-index 0) ≡ true = search rules in
    let past : c.args.most < c.loop-byte.number * 10 + (get_or c.args.digits.now c.loop-byte.byte-index 0 - 48) = search rules in
    rw c.loop-byte.invariant.1 (digit_too_large c.args.most c.loop-byte.number c.loop-byte.byte-index c.args.digits.now c.loop-byte-test.true digit past)
