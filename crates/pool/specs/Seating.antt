-- How sessions come and go.
use Rattle.std.specs.Prelude.{◌≡◌, ◌⊎◌, ℕ, ◌+◌, ◌<◌, ◌≤◌, List, [], ◌∷◌, ◌++◌, Bool, Some, None}
use Rattle.std.specs.FinMap.{get}
use Rattle.reservation_tree.specs.Tracker.{reservation_of, room_of}
use Rattle.reservation_tree.specs.declared.errors.PoolErr.{PoolErr}
use Rattle.reservation_tree.specs.declared.errors.PoolErr.TheVariants.{Memory, NoReservation, TooManyTrackers}
use Rattle.pool_model.specs.State.{Opening, State}
use Rattle.pool_model.specs.Legal.{state_after}
use Rattle.store_api.specs.Holdings.{Holdings, Shared}
use Rattle.pin_core.specs.calls.Sessions.{IsFull, query_of}
use Rattle.pin_core.specs.calls.Entering.{session_entry, increase_entry, decrease_entry, close_entry}
use Rattle.pin_core.specs.calls.Opening.{LacksLeast, root_growth}
use Rattle.turn_table.specs.Knowledge.{GrewBeside}
use Rattle.turn_table.specs.Face.{Spot}
use Rattle.pool.specs.declared.item.Item.{Item}
use Rattle.pool.specs.declared.item.Item.TheVariants.{Seated, Made}
use Rattle.pool.specs.Items.{history, needs_of}
use Rattle.pool.specs.Passing.{writers_out}
use Rattle.pool.specs.Seats.{live_in, quotas_in, taken_in}
use Rattle.pool.specs.Sitting.{Sitting, held_by}

-- a session's query tracker comes, and gets its least reservation
abbrev pub beginning_items : ℕ → ℕ → ℕ → ℕ → ℕ → List Item
beginning_items m query limit quota least = Seated (session_entry m limit quota query) ∷ Made (increase_entry m query least) ∷ []

-- a session's reservation goes, and then its query tracker
abbrev pub ending_items : State → ℕ → List Item
ending_items s m = Made (decrease_entry m (query_of s m) (reservation_of s.trackers (query_of s m))) ∷ Seated (close_entry m (query_of s m)) ∷ []

-- the pool's state, as these items tell
abbrev pub state_in : Opening → List Item → State
state_in o items = state_after o (history items)

-- nothing is live, all of the reservation is room, all slots of the quota are free, and pins are told where slots tell
pub record HasBegun (len : ℕ) (tells : Bool) (limit quota least : ℕ) (h : Holdings) : Type 0 where
  pub block_len : h.block_len ≡ len
  pub most : h.limit ≡ limit
  pub reservation : h.reservation ≡ least
  pub room : h.room ≡ least
  pub above : h.above ≡ Shared
  pub live_clients : h.live_clients ≡ 0
  pub clients : (t : ℕ) → h.clients t ≡ None
  pub pages : (p : ℕ) → h.pages p ≡ None
  pub loans : (f : ℕ) → h.loans f ≡ None
  pub free_slots : h.free_slots ≡ Some quota
  pub told : h.told ≡ tells

-- no number is left, or the least reservation passes its own limit or what the root may still reserve
abbrev pub MustTurnAway : State → ℕ → ℕ → Type 0
MustTurnAway s limit least = IsFull s ⊎ LacksLeast s limit least

-- why: no number is left; the least reservation passes its own limit, which names no tracker; the root would have to
-- grow by more than it may; or nothing of this is against it, and there was no memory
abbrev pub IsSessionRefusal : State → ℕ → ℕ → PoolErr → Type 0
IsSessionRefusal s limit least (TooManyTrackers count) = IsFull s × (count ≡ 240)
IsSessionRefusal s limit least (NoReservation tracker wanted room) =
    (IsFull s → ⊥) × (((limit < least) × (tracker ≡ 4294967295) × (wanted ≡ least) × (room ≡ limit))
    ⊎ ((least ≤ limit) × (room_of s.trackers 0 < root_growth s least) × (tracker ≡ 0) × (wanted ≡ root_growth s least) × (room ≡ room_of s.trackers 0)))
IsSessionRefusal s limit least Memory = MustTurnAway s limit least → ⊥
IsSessionRefusal s limit least _ = ⊥

-- a session began: the pass had its turn, found nothing against it, and entered the session's first items, with which
-- the session's own trail begins
pub record Begins (o : Opening) (told : Bool) (limit quota least : ℕ) (old new : Spot Item) (s : Sitting) : Type 0 where
  pub entered : List Item
  pub grew : GrewBeside needs_of old.knows.rights old.knows.seen entered
  pub granted : MustTurnAway (state_in o entered) limit least → ⊥
  pub fresh : get (quotas_in old.knows.seen) s.number ≡ None
  pub query : ℕ
  pub items : new.knows.seen ≡ entered ++ beginning_items s.number query limit quota least
  pub seen : s.spot.knows.seen ≡ new.knows.seen
  pub table : (new.table ≡ old.table) × (s.spot.table ≡ old.table)
  pub held : HasBegun o.block_len told limit quota least (held_by o told s)
  pub taken : taken_in new.knows.seen ≡ taken_in old.knows.seen + quota
  pub count : live_in new.knows.seen ≡ live_in old.knows.seen + 1
  pub writers : writers_out new ≡ writers_out old

-- a session was turned away: the pass had its turn, found what is against it, and entered nothing
pub record TurnsAway (o : Opening) (limit least : ℕ) (old new : Spot Item) (e : PoolErr) : Type 0 where
  pub grew : GrewBeside needs_of old.knows.rights old.knows.seen new.knows.seen
  pub cause : IsSessionRefusal (state_in o new.knows.seen) limit least e
  pub table : new.table ≡ old.table
  pub taken : taken_in new.knows.seen ≡ taken_in old.knows.seen
  pub count : live_in new.knows.seen ≡ live_in old.knows.seen
  pub writers : writers_out new ≡ writers_out old

-- a session ended: what it and the pass had seen came together, and the session's last items were entered
pub record Ends (o : Opening) (s : Sitting) (old new : Spot Item) : Type 0 where
  pub entered : List Item
  pub grew : GrewBeside needs_of old.knows.rights old.knows.seen entered
  pub own : GrewBeside needs_of s.spot.knows.rights s.spot.knows.seen entered
  pub items : new.knows.seen ≡ entered ++ ending_items (state_in o entered) s.number
  pub table : new.table ≡ old.table
  pub quota : ℕ
  pub was : get (quotas_in old.knows.seen) s.number ≡ Some quota
  pub taken : taken_in new.knows.seen + quota ≡ taken_in old.knows.seen
  pub count : live_in new.knows.seen + 1 ≡ live_in old.knows.seen
  pub writers : writers_out new ≡ writers_out old
