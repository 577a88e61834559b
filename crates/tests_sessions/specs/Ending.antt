-- Sessions that can end, and how many stay.
use Rattle.std.specs.Prelude.{◌≡◌, ℕ, List, Bool, Result, Ok, Err, length}
use Rattle.std.specs.Bool.{⊤}
use Rattle.std.specs.List.{All}
use Rattle.atomic_table.specs.Seated.{TableId}
use Rattle.reservation_tree.specs.declared.errors.PoolErr.{PoolErr}
use Rattle.pool_model.specs.State.{Opening}
use Rattle.turn_table.specs.Face.{Spot}
use Rattle.pool.specs.declared.item.Item.{Item}
use Rattle.pool.specs.Passing.{writers_out}
use Rattle.pool.specs.Seats.{live_in}
use Rattle.pool.specs.Sitting.{Sitting, held_by}

-- as many sessions are live as before, and as many writers are out
pub record AsMany (old new : Spot Item) : Type 0 where
  pub sessions : live_in new.knows.seen ≡ live_in old.knows.seen
  pub writers : writers_out new ≡ writers_out old

-- a session that has no client, at the lock of the pass that it ends into
pub record CanEnd (o : Opening) (told : Bool) (lock : TableId) (s : Sitting) : Type 0 where
  pub table : s.spot.table ≡ lock
  pub no_client : (held_by o told s).live_clients ≡ 0

-- each session that came with an answer
abbrev pub AllCanEnd : Opening → Bool → TableId → Result (List Sitting) PoolErr → Type 0
AllCanEnd o told lock (Ok sessions) = All (CanEnd o told lock) sessions
AllCanEnd o told lock (Err e) = ⊤

-- how many came with an answer
abbrev pub came_by : Result (List Sitting) PoolErr → ℕ
came_by (Ok sessions) = length sessions
came_by (Err e) = 0
