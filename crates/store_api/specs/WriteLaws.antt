-- Which pages the entries of a call write, and which names are new. Statements alone.
use Rattle.std.specs.Prelude.{◌≡◌, ℕ, List, [], filter_map, All, Option, Some, None}
use Rattle.reservation_tree.specs.declared.errors.PoolErr.{PoolErr}
use Rattle.pool_model.specs.declared.call.Call.{Call}
use Rattle.pool_model.specs.declared.event.Event.{Event}
use Rattle.pool_model.specs.declared.event.Event.TheVariants.{StartWrite, WriteOk, WriteFailed}
use Rattle.pool_model.specs.declared.entry.Entry.{Entry}
use Rattle.pool_model.specs.LookingBack.{maker_of}
use Rattle.store_api.specs.Holdings.{Holdings, IsPageOf}
use Rattle.store_api.specs.Entries.{IsAsked, IsTaken, IsPin, IsRefusal, IsAboveNames}

-- the page whose write begins or ends
abbrev pub write_in : Event → Option ℕ
write_in (StartWrite p) = Some p
write_in (WriteOk p) = Some p
write_in (WriteFailed p before after) = Some p
write_in _ = None

-- the pages that are written
abbrev pub written : List Event → List ℕ
written events = filter_map write_in events

-- where these are the entries of one call, each page that they write is a live page of the call's client
pub record WritesOwn (t : ℕ) (h : Holdings) (events : List Event) : Type 0 where
  pub asked : (last : List Event) → written last ≡ [] → IsAsked t h last events → All (IsPageOf t h) (written events)
  pub taken : (last : List Event) → written last ≡ [] → IsTaken t h last events → All (IsPageOf t h) (written events)
  pub pinned : (p : ℕ) → IsPin t h p events → All (IsPageOf t h) (written events)
  pub refused : (what : Call) (e : PoolErr) → IsRefusal t h what e events → All (IsPageOf t h) (written events)

abbrev pub CallsWriteOwn : Type 0
CallsWriteOwn = (t : ℕ) (h : Holdings) (events : List Event) → WritesOwn t h events

-- a name above all names of a trail is of no page that the trail made
abbrev pub NamesAboveAreNew : Type 0
NamesAboveAreNew = (name : ℕ) (trail : List Entry) → IsAboveNames name (Some trail) → maker_of trail name ≡ None
