use Rattle.std.proofs.Common.{ap, sym, subst, ◌∙◌, ◌++◌}
use Rattle.turn_table.proofs.turns.Turns.leave.Goals as goal

pub serve-requires-clause-value : goal.serve-requires-clause-value
serve-requires-clause-value g c =
    let seen = ap (λ m. m.0.seen) c.put_in.ensures.held ∙ ap (λ s. s.knows.seen) c.seat.view_is in
    (c.args.value, ap (λ m. m.1) c.put_in.ensures.held, subst (λ log. g.V.Logged.stands c.args.value (log ++ g.N.Adds.entries)) (sym seen) c.requires.stands)
