-- The seats that are out beside the pass: those of live sessions and of writers.
use Rattle.std.proofs.Common.{◌≡◌, ℕ, ◌+◌, sym, ap, ◌∙◌, arith}
use Rattle.turn_table.specs.declared.view.Role.TheVariants.{First}
use Rattle.turn_table.specs.Face.{Spot}
use Rattle.pool.specs.declared.item.Item.{Item}
use Rattle.pool.specs.Seats.{live_in}
use Rattle.pool.specs.Passing.{seats_out, writers_out}

-- what is out beyond the live sessions are writers
module _ (spot : Spot Item) (writers : ℕ) (role : spot.knows.role ≡ First (live_in spot.knows.seen + writers)) where
  pub out_are : writers_out spot ≡ writers
  out_are = let out : seats_out spot.knows.role ≡ live_in spot.knows.seen + writers = ap seats_out role in omega (arith, out)

  pub out_role : spot.knows.role ≡ First (live_in spot.knows.seen + writers_out spot)
  out_role = role ∙ ap (λ (n : ℕ). First (live_in spot.knows.seen + n)) (sym out_are)
