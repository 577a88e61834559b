use Rattle.std.specs.Prelude.{[], ◌∷◌}
use Rattle.pool.specs.declared.item.Item.TheVariants.{Stop}
use Rattle.pool.proofs.pool.Pool.stop.Given as goal

abbrev pub ghosts-leave_stopped : goal.ghosts-leave_stopped
ghosts-leave_stopped g a = record { entries = Stop ∷ [] }
