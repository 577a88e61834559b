-- Which pages a session is loading, or writing itself.
use Rattle.std.specs.Prelude.{◌≡◌, ℕ, ◌==◌, List, [], ◌∷◌, Bool, true, false, if◌then◌else◌, Option, Some, None}
use Rattle.std.specs.FinMap.{get}
use Rattle.pool_model.specs.declared.event.Event.{Event}
use Rattle.pool_model.specs.declared.event.Event.TheVariants.{AddTracker, Create, PinLoad, ReadOk, ReadFailed, ReadStale, StartWrite, WriteOk, WriteFailed, Extract, Destroy}
use Rattle.pool_model.specs.declared.entry.Entry.{Entry}
use Rattle.pool_model.specs.State.{Opening, Place, Flying, Loading, Page}
use Rattle.pool_model.specs.Makers.{IsSession}
use Rattle.pool_model.specs.LookingBack.{made_by}
use Rattle.pool_model.specs.Legal.{state_after, IsLegal}

-- a page of the maker there is loading, or flying by the maker itself
abbrev pub is_busy : ℕ → Place → Bool
is_busy maker Loading = true
is_busy maker (Flying writer) = writer == maker
is_busy maker _ = false

-- a page of the session that it loads, or writes itself
abbrev pub busy_in : ℕ → Option Page → Bool
busy_in maker None = false
busy_in maker (Some x) = if x.session == maker then is_busy maker x.place else false

-- the same after one more of the session's own events
abbrev pub busy_after : ℕ → Event → Bool → Bool
busy_after p (AddTracker t parent limit (Some quota)) was = false
busy_after p (Create q client blocks key) was = if q == p then false else was
busy_after p (PinLoad q) was = if q == p then true else was
busy_after p (ReadOk q) was = if q == p then false else was
busy_after p (ReadFailed q before after) was = if q == p then false else was
busy_after p (ReadStale q wanted found) was = if q == p then false else was
busy_after p (StartWrite q) was = if q == p then true else was
busy_after p (WriteOk q) was = if q == p then false else was
busy_after p (WriteFailed q before after) was = if q == p then false else was
busy_after p (Extract q f) was = if q == p then false else was
busy_after p (Destroy q) was = if q == p then false else was
busy_after p _ was = was

abbrev pub busy_from : ℕ → Bool → List Entry → Bool
busy_from p was [] = was
busy_from p was (e ∷ es) = busy_from p (busy_after p e.event was) es

-- a session's own entries tell which of its pages it loads or writes
abbrev pub LegalBusyPagesAreTold : Type 0
LegalBusyPagesAreTold =
    (o : Opening) (h : List Entry) → IsLegal o h → (m : ℕ) → IsSession m
    → (p : ℕ) → busy_in m (get (state_after o h).pages p) ≡ busy_from p false (made_by h m)
