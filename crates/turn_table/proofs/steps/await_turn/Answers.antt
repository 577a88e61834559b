use Rattle.std.proofs.Common.{rules, ap, ◌∙◌}
use Rattle.turn_table.proofs.Calls.{looks}
use Rattle.turn_table.proofs.steps.await_turn.Goals as goal

pub load-requires : goal.load-requires
load-requires g c = (search rules, search rules, looks _ _ _ _ _ _ (ap (λ m. m.0.stage) c.loop.invariant.2 ∙ c.requires.waits))

-- Another number is served: nothing changed.
pub loop-preserved : goal.loop-preserved
loop-preserved g c =
    let kept = c.loop.invariant in
    let told = c.load.ensures.2 c.args.ticket (ap (λ m. m.0.stage) kept.2 ∙ c.requires.waits) (ap (λ m. m.1) kept.2 ∙ c.requires.empty) in
    (c.load.ensures.0 ∙ kept.0, c.load.ensures.1 ∙ kept.1, told.1 c.if-load-ticket.false ∙ kept.2)
