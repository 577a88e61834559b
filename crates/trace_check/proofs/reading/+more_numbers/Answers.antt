use Rattle.std.proofs.Common.{◌<◌, ◌-◌, ℕ, List, arith, sym, ap, ◌∙◌}
use Rattle.trace_check.specs.Reading.{numbers_at, with_front}
use Rattle.trace_check.proofs.Steps.{line_ends, no_number, a_number, at_end}
use Rattle.trace_check.proofs.reading.+more_numbers.Goals as goal

pub returns-in_default : goal.returns-in_default
returns-in_default t c = sym (at_end c.args.numbers c.args.left c.args.bytes.now (omega arith))

pub returns-then-first-eq10 : goal.returns-then-first-eq10
returns-then-first-eq10 t c = line_ends c.args.numbers c.args.left c.args.bytes.now c.in-len1-up.len_at_least c.if-first-eq10.true

pub returns-in_err-number : goal.returns-in_err-number
returns-in_err-number t c =
    let some_left : 0 < c.args.left = omega arith in
    rw c.from_residual.ensures (sym (no_number c.args.numbers c.args.left c.args.bytes.now c.in-len1-up.len_at_least c.if-first-ne32.false some_left (sym c.in_err-number.ensures)))

pub returns : goal.returns
returns t c =
    let some_left : 0 < c.args.left = omega arith in
    c.more_numbers.ensures
    ∙ ap (λ (front : List ℕ). with_front front (numbers_at (c.args.left - 1) c.in_ok-number.rest.now)) c.push.ensures
    ∙ sym (a_number c.args.numbers c.args.left c.args.bytes.now c.in_ok-number.number c.in_ok-number.rest.now c.in-len1-up.len_at_least c.if-first-ne32.false some_left (sym c.in_ok-number.ensures))
