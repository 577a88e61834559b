use Rattle.std.proofs.Common.{◌≡◌, ◌≤◌, ◌<◌, ◌^◌, ◌+◌, ◌-◌, ◌++◌, ◌∙◌, ℕ, length, sym, arith, rules}
use Rattle.std.specs.Prelude.{codes, decimal}
use Rattle.std.proofs.lemmas.Fmt.{length-decimal-le}
use Rattle.std.proofs.lemmas.List.{drop-set, length-set, append_assoc}
use Rattle.std.proofs.Math.ListN.{drop_of_length-le}
use Rattle.table_gen.proofs.line.write_line.Goals as goal

short : (n : ℕ) → n < 2 ^ 64 → length (decimal n) ≤ 20
short n fits = length-decimal-le 20 n (omega arith) (omega arith) fits

pub write_digits-comma-requires : goal.write_digits-comma-requires
write_digits-comma-requires c = search (rules, short)

pub overflow_sub-comma : goal.overflow_sub-comma
overflow_sub-comma c = omega (arith, short c.args.number (omega arith))

pub write_digits-requires : goal.write_digits-requires
write_digits-requires c =
    let number = short c.args.number (omega arith) in
    let key = short c.args.key (omega arith) in
    (omega arith, search rules)

pub returns-clause-written : goal.returns-clause-written
returns-clause-written c =
    let number = short c.args.number (omega arith) in
    let first = c.write_digits-comma in
    let comma : ℕ = first.result - 1 in
    let after : comma + 1 ≡ first.result = omega arith in
    let long = length-set c.args.line.now 41 10 in
    let newline = drop-set c.args.line.now 41 10 (omega arith) in
    let none = drop_of_length-le c.args.line.now {i = 42} (omega arith) in
    let separator = drop-set first.new.buf comma 44 (omega (arith, first.auto.buf, long)) in
    rw (c.write_digits.ensures.written, separator, after, first.ensures.written, newline, none)
    (sym (append_assoc (decimal c.args.key ++ codes ",") (decimal c.args.number) (codes "\n") ∙ append_assoc (decimal c.args.key) (codes ",") (decimal c.args.number ++ codes "\n")))
