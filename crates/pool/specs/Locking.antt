-- A session's seat at the turn lock, while one of its calls has the value in hand and while it doesn't.
use Rattle.std.specs.Prelude.{◌≡◌, ℕ, [], ◌∷◌, Bool, false, true}
use Rattle.std.proofs.lemmas.Bool.{false≢true}
use Rattle.std.specs.FinMap.{get}
use Rattle.std.specs.List.{AllByRecursion}
use Rattle.atomic_table.specs.Seated.{TableId}
use Rattle.pool_model.specs.State.{Opening}
use Rattle.pool_model.specs.Legal.{state_after}
use Rattle.turn_table.specs.Knowledge.{HasTurn, IsIdle}
use Rattle.turn_table.specs.Face.{Spot}
use Rattle.own_entries.specs.OwnHoldings.{Outset}
use Rattle.session_calls.specs.Moving.{quota_at}
use Rattle.pool.specs.declared.item.Item.{Item}
use Rattle.pool.specs.Items.{history}
use Rattle.pool.specs.Seats.{quotas_in}
use Rattle.pool.specs.Standing.{IsMarked}
use Rattle.pool.specs.Sitting.{shared}

-- the seat of this session is at the lock, and has no ticket
pub record RestsAt (lock : TableId) (spot : Spot Item) (m : ℕ) : Type 0 where
  pub table : spot.table ≡ lock
  pub idle : IsIdle spot.knows
  pub rights : spot.knows.rights ≡ m ∷ []

-- the seat of this session has its turn; the sessions that are live after what it has seen are those that came and
-- haven't gone, each by an item that says so
pub record TurnsAt (o : Opening) (lock : TableId) (spot : Spot Item) (m : ℕ) : Type 0 where
  pub table : spot.table ≡ lock
  pub turn : HasTurn spot.knows
  pub rights : spot.knows.rights ≡ m ∷ []
  pub marked : AllByRecursion IsMarked spot.knows.seen
  pub quotas : (k : ℕ) → quota_at (state_after o (history spot.knows.seen)) k ≡ get (quotas_in spot.knows.seen) k

-- the same, where the call names with what the pool opened, and that others share what is above
pub record RestsThere (opening : Opening) (told : Bool) (o : Opening) (u : Outset) (lock : TableId) (spot : Spot Item) (m : ℕ) : Type 0 where
  pub origin : o ≡ opening
  pub outset : u ≡ shared told
  pub rests : RestsAt lock spot m

pub record TurnsThere (opening : Opening) (told : Bool) (o : Opening) (u : Outset) (lock : TableId) (spot : Spot Item) (m : ℕ) : Type 0 where
  pub origin : o ≡ opening
  pub outset : u ≡ shared told
  pub turns : TurnsAt opening lock spot m

-- a session of a shared pool isn't alone
pub never_alone : {P : Type 0} → false ≡ true → P
never_alone never = absurd (false≢true never)
