-- What a session is to contracts, and what it keeps true.
use Rattle.std.specs.Prelude.{◌≡◌, ℕ, List, [], ◌∷◌, Bool}
use Rattle.reservation_tree.specs.declared.errors.PoolErr.{PoolErr}
use Rattle.pool_model.specs.State.{Opening}
use Rattle.pool_model.specs.declared.call.Call.{Call}
use Rattle.pool_model.specs.declared.event.Event.{Event}
use Rattle.pool_model.specs.Legal.{IsLegal}
use Rattle.store_api.specs.Holdings.{Holdings, Shared}
use Rattle.store_api.specs.Signs.{Grows, Signs}
use Rattle.store_api.specs.Refusals.{WasRefused}
use Rattle.own_entries.specs.OwnHoldings.{Outset}
use Rattle.turn_table.specs.Knowledge.{IsIdle}
use Rattle.turn_table.specs.Face.{Spot}
use Rattle.session_calls.specs.Told.{held_in, signs_in}
use Rattle.session_calls.specs.Ready.{IsResting}
use Rattle.session_calls.specs.Doing.{Does}
use Rattle.pool.specs.declared.item.Item.{Item}
use Rattle.pool.specs.Items.{history}

-- a session: its number, and its seat with what it has seen
pub record Sitting : Type 0 where
  pub number : ℕ
  pub spot : Spot Item

-- others may take what is above its query
abbrev pub shared : Bool → Outset
shared told = record { above = Shared; told = told }

-- what a session holds, as its own entries tell
abbrev pub held_by : Opening → Bool → Sitting → Holdings
held_by o told s = held_in o (shared told) s.number (history s.spot.knows.seen)

-- what shows of it, and only grows
abbrev pub signs_by : Opening → Sitting → Signs
signs_by o s = signs_in o s.number (history s.spot.knows.seen)

-- a live session between two turns, which has the right of its number and has seen a legal history
pub record Sits (o : Opening) (told : Bool) (s : Sitting) : Type 0 where
  pub idle : IsIdle s.spot.knows
  pub right : s.spot.knows.rights ≡ s.number ∷ []
  pub rests : IsResting o (shared told) s.number (history s.spot.knows.seen)
  pub legal : IsLegal o (history s.spot.knows.seen)

-- the session did what this says, whatever others did
pub record Did (P : List Event → Type 0) (old new : Sitting) : Type 0 where
  pub number : new.number ≡ old.number
  pub table : new.spot.table ≡ old.spot.table
  pub does : Does old.number P (history old.spot.knows.seen) (history new.spot.knows.seen)

-- it entered these
abbrev pub DidThese : List Event → Sitting → Sitting → Type 0
DidThese these old new = Did (λ events. events ≡ these) old new

-- a call that needs room of this client was refused with this error, as a call of a store is, and its signs only grew
pub record WasDeclined (o : Opening) (told : Bool) (t : ℕ) (what : Call) (old new : Sitting) (e : PoolErr) : Type 0 where
  pub was : WasRefused t what (held_by o told old) (held_by o told new) (signs_by o old) (signs_by o new) e
  pub grows : Grows (signs_by o old) (signs_by o new)
