use Rattle.std.proofs.Common.{rules}
use Rattle.turn_table.proofs.Calls.{recalls}
use Rattle.turn_table.proofs.steps.recall.Goals as goal

pub load-requires : goal.load-requires
load-requires g c = (search rules, search rules, recalls _ _ _ _ _ c.requires.idle)
