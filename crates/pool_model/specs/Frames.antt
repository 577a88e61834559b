-- What an entry leaves alone. Statements alone.
use Rattle.std.specs.Prelude.{◌≡◌, ◌≢◌, ℕ, Bool, true, false, Option, Some, None}
use Rattle.std.specs.FinMap.{get}
use Rattle.pool_model.specs.declared.event.Event.{Event}
use Rattle.pool_model.specs.declared.event.Event.TheVariants.{AddTracker, CloseTracker, Increase, IncreaseToFit, Decrease, MoveReservation, Create, PinHere, PinLoad, ReadOk, ReadFailed, ReadStale, PinAgain, UnpinOnce, Unpin, UnpinRefused, Extract, Destroy, Alloc, Free, MoveBuffer, StartWrite, WriteOk, WriteFailed, Evict}
use Rattle.pool_model.specs.declared.entry.Entry.{Entry}
use Rattle.pool_model.specs.State.{State}
use Rattle.pool_model.specs.Effects.{after}

-- the page that an event names
abbrev pub page_in : Event → Option ℕ
page_in (Create p client blocks key) = Some p
page_in (PinHere p) = Some p
page_in (PinLoad p) = Some p
page_in (ReadOk p) = Some p
page_in (ReadFailed p before after) = Some p
page_in (ReadStale p wanted found) = Some p
page_in (PinAgain p) = Some p
page_in (UnpinOnce p) = Some p
page_in (Unpin p content) = Some p
page_in (UnpinRefused p) = Some p
page_in (Extract p f) = Some p
page_in (Destroy p) = Some p
page_in (StartWrite p) = Some p
page_in (WriteOk p) = Some p
page_in (WriteFailed p before after) = Some p
page_in (Evict p) = Some p
page_in _ = None

-- the buffer that an event names
abbrev pub buffer_in : Event → Option ℕ
buffer_in (Extract p f) = Some f
buffer_in (Alloc f client blocks) = Some f
buffer_in (Free f) = Some f
buffer_in (MoveBuffer f to) = Some f
buffer_in _ = None

-- events of trackers
abbrev pub is_of_trackers : Event → Bool
is_of_trackers (AddTracker t parent limit quota) = true
is_of_trackers (CloseTracker t) = true
is_of_trackers (Increase t bytes) = true
is_of_trackers (IncreaseToFit t bytes) = true
is_of_trackers (Decrease t bytes) = true
is_of_trackers (MoveReservation from to bytes) = true
is_of_trackers _ = false

-- pages and buffers that an entry doesn't name stay as they are, trackers stay but for events of trackers, and
-- the memory of the pool always
pub record LeavesRest (s : State) (e : Entry) : Type 0 where
  pub pages : (p : ℕ) → page_in e.event ≢ Some p → get (after s e).pages p ≡ get s.pages p
  pub buffers : (f : ℕ) → buffer_in e.event ≢ Some f → get (after s e).buffers f ≡ get s.buffers f
  pub trackers : is_of_trackers e.event ≡ false → (after s e).trackers ≡ s.trackers
  pub block_len : (after s e).block_len ≡ s.block_len
  pub marked : (after s e).marked ≡ s.marked
  pub blocks : (after s e).blocks ≡ s.blocks

abbrev pub EntriesLeaveRest : Type 0
EntriesLeaveRest = (s : State) (e : Entry) → LeavesRest s e
