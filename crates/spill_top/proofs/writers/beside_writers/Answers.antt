use Rattle.std.proofs.Common.{ap, sym, rules, ◌∙◌}
use Rattle.spill_top.proofs.Writing.{same_along}
use Rattle.spill_top.proofs.writers.beside_writers.Goals as goal

pub returns-clause-at : goal.returns-clause-at
returns-clause-at g c =
    same_along (λ w. w.seat.spot.table) c.args.writers.now c.call_beside.new.items (search rules) (λ i d less.
    let at = (c.call_beside.ensures.each i d less).1 in
    ap (λ w. w.seat.spot.table) (sym at.left) ∙ at.call ∙ ap (λ w. w.seat.spot.table) at.argument_is)
