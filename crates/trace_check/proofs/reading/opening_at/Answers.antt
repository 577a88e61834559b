use Rattle.std.proofs.Common.{sym, ap, ◌∙◌, List, ℕ}
use Rattle.trace_check.specs.Reading.{numbers_at, opening_from}
use Rattle.trace_check.proofs.Steps.{opened_so, rest_of}
use Rattle.trace_check.proofs.reading.opening_at.Goals as goal

pub returns-in-Some : goal.returns-in-Some
returns-in-Some c =
    sym (opened_so c.args.bytes.now c.in_ok-numbers.numbers c.in_ok-numbers.rest.now c.in-Some.opened
    (sym c.if-not-starts_with.ensures.value) (ap (λ (t : List ℕ). numbers_at 6 t) (sym (rest_of 4 c.args.bytes.now)) ∙ sym c.in_ok-numbers.ensures) (sym (ap (λ (ns : List ℕ). opening_from ns) c.as_slice.ensures) ∙ sym c.in-Some.ensures))
