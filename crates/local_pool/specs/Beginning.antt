-- How one owner's pool begins, and why it doesn't.
use Rattle.std.specs.Prelude.{◌≡◌, ◌≢◌, ◌⊎◌, ℕ, ◌-◌, ◌<◌, ◌≤◌, List, [], ◌∷◌, None, Some}
use Rattle.std.specs.List.{sum_by}
use Rattle.std.specs.Bool.{⊤}
use Rattle.outside.specs.declared.slot.Slot.{Ghosts}
use Rattle.reservation_tree.specs.declared.errors.PoolErr.{PoolErr}
use Rattle.reservation_tree.specs.declared.errors.PoolErr.TheVariants.{NoReservation, Memory}
use Rattle.pool_model.specs.Bytes.{bytes_of}
use Rattle.pool_model.specs.declared.event.Event.{Event}
use Rattle.pool_model.specs.declared.event.Event.TheVariants.{AddTracker, Increase}
use Rattle.store_api.specs.Holdings.{Holdings, Room}
use Rattle.store_api.specs.Entries.{by}
use Rattle.pin_core.specs.declared.conf.PoolConf.{PoolConf}
use Rattle.pin_core.specs.Standing.{slots_home}
use Rattle.session_calls.specs.declared.hand.Hand.{Hand}
use Rattle.local_pool.specs.Told.{held_of}

-- all memory of a pool that opens with these numbers
abbrev pub memory_of : PoolConf → ℕ
memory_of conf = bytes_of conf.block_len conf.blocks

-- the owner's query came, and got its least reservation
abbrev pub first_events : ℕ → ℕ → ℕ → ℕ → List Event
first_events query limit quota least = AddTracker query 0 limit (Some quota) ∷ Increase query least ∷ []

-- nothing is live, all of the reservation is room, and all slots of the quota are free
pub record IsBegun (conf : PoolConf) (limit quota least : ℕ) (h : Holdings) : Type 0 where
  pub block_len : h.block_len ≡ conf.block_len
  pub most : h.limit ≡ limit
  pub reservation : h.reservation ≡ least
  pub room : h.room ≡ least
  pub above : h.above ≡ Room (memory_of conf - least)
  pub live_clients : h.live_clients ≡ 0
  pub clients : (t : ℕ) → h.clients t ≡ None
  pub pages : (q : ℕ) → h.pages q ≡ None
  pub loans : (q : ℕ) → h.loans q ≡ None
  pub free_slots : h.free_slots ≡ Some quota

-- a pool begins with these slots
pub record Begins {D : Type 0} (slot : Ghosts D) (conf : PoolConf) (slots : List D) (limit quota least : ℕ) (own : Hand D) : Type 0 where
  pub held : IsBegun conf limit quota least (held_of slot own)
  pub trail : own.trail ≡ by own.session (first_events (held_of slot own).query limit quota least)
  pub home : (measure : D → ℕ) → slots_home measure own.state ≡ sum_by measure slots

-- the least reservation passes its own limit, or all memory
abbrev pub LacksLeast : PoolConf → ℕ → ℕ → Type 0
LacksLeast conf limit least = (limit < least) ⊎ (memory_of conf < least)

-- the refusal names the query's tracker with its limit, which isn't the root and is gone again, or the root with all memory
abbrev pub IsLeastRefusal : PoolConf → ℕ → ℕ → PoolErr → Type 0
IsLeastRefusal conf limit least (NoReservation tracker wanted room) =
    (wanted ≡ least) × (((limit < least) × (tracker ≢ 0) × (room ≡ limit)) ⊎ ((least ≤ limit) × (memory_of conf < least) × (tracker ≡ 0) × (room ≡ memory_of conf)))
IsLeastRefusal conf limit least Memory = ⊤
IsLeastRefusal conf limit least _ = ⊥
