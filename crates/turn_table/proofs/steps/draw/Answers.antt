use Rattle.std.proofs.Common.{rules, ap, ◌∙◌, arith}
use Rattle.turn_table.proofs.Calls.{draws}
use Rattle.turn_table.proofs.steps.draw.Goals as goal

pub compare_exchange-found-requires : goal.compare_exchange-found-requires
compare_exchange-found-requires g c = (search rules, search rules, draws _ _ _ _ _ _ (ap (λ m. m.0.stage) c.loop.invariant.2 ∙ c.requires.idle) (omega arith))
