-- What the pass of a pool keeps true.
use Rattle.std.specs.Prelude.{◌≡◌, ℕ, ◌+◌, ◌-◌, ◌<◌, None}
use Rattle.std.specs.FinMap.{get}
use Rattle.turn_table.specs.declared.view.Role.{Role}
use Rattle.turn_table.specs.declared.view.Role.TheVariants.{First, Other}
use Rattle.turn_table.specs.Lists.{times}
use Rattle.turn_table.specs.Knowledge.{IsIdle}
use Rattle.turn_table.specs.Face.{Spot}
use Rattle.pool.specs.declared.item.Item.{Item}
use Rattle.pool.specs.Items.{door}
use Rattle.pool.specs.Seats.{live_in, quotas_in, taken_in}

-- how many seats are out that were split off the first one
abbrev pub seats_out : Role → ℕ
seats_out (First out) = out
seats_out Other = 0

-- how many writers are out: the seats that no live session has
abbrev pub writers_out : Spot Item → ℕ
writers_out spot = seats_out spot.knows.role - live_in spot.knows.seen

-- the first seat of the lock, between two turns: each seat that is out is a live session's or a writer's; it has the door and the
-- numbers of sessions that aren't live; and it knows how many slots are spare
pub record IsPass (slots free : ℕ) (spot : Spot Item) : Type 0 where
  pub idle : IsIdle spot.knows
  pub role : spot.knows.role ≡ First (live_in spot.knows.seen + writers_out spot)
  pub opens : 0 < times door spot.knows.rights
  pub numbers : (m : ℕ) → m < 240 → get (quotas_in spot.knows.seen) m ≡ None → 0 < times m spot.knows.rights
  pub spare : free + taken_in spot.knows.seen ≡ slots
