use Rattle.std.proofs.Common.{rules, refl, ◌++◌}
use Rattle.atomic_table.specs.Table.{keeps}
use Rattle.turn_table.proofs.solo.Solo.tick.Goals as goal

-- Any view is allowed.
pub load-requires : goal.load-requires
load-requires g c = (search rules, search rules, λ s holds long at small. (c.self.inside.place.me.0 ++ g.N.Adds.entries, keeps, tt, tt, refl))
