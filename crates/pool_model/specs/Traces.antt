-- Traces: what is kept of a history, its entries without the bytes of unpins, the sums of failures and the keys of
-- pages. The oldest entry is first.
use Rattle.std.specs.Prelude.{◌≡◌, ℕ, List, map, Bool, leb}
use Rattle.pool_model.specs.declared.event.Event.{Event}
use Rattle.pool_model.specs.declared.event.Event.TheVariants.{Ask, AddTracker, CloseTracker, Increase, IncreaseToFit, Decrease, MoveReservation, Create, PinHere, PinLoad, ReadOk, ReadFailed, ReadStale, PinAgain, UnpinOnce, Unpin, UnpinRefused, Extract, Destroy, Alloc, Free, MoveBuffer, StartWrite, WriteOk, WriteFailed, Evict, Refused}
use Rattle.pool_model.specs.declared.bare.Bare.{Bare}
use Rattle.pool_model.specs.declared.bare.Bare.TheVariants as bare
use Rattle.pool_model.specs.declared.entry.Entry.{Entry}
use Rattle.pool_model.specs.declared.skeleton.Skeleton.{Skeleton}
use Rattle.pool_model.specs.State.{Opening, State}
use Rattle.pool_model.specs.MayFollow.{MayFollow}
use Rattle.pool_model.specs.Legal.{IsLegal}

-- the event without bytes, sums and keys
abbrev pub bare_of : Event → Bare
bare_of Ask = bare.Ask
bare_of (AddTracker t parent limit quota) = bare.AddTracker t parent limit quota
bare_of (CloseTracker t) = bare.CloseTracker t
bare_of (Increase t bytes) = bare.Increase t bytes
bare_of (IncreaseToFit t bytes) = bare.IncreaseToFit t bytes
bare_of (Decrease t bytes) = bare.Decrease t bytes
bare_of (MoveReservation from to bytes) = bare.MoveReservation from to bytes
bare_of (Create p client blocks key) = bare.Create p client blocks
bare_of (PinHere p) = bare.PinHere p
bare_of (PinLoad p) = bare.PinLoad p
bare_of (ReadOk p) = bare.ReadOk p
bare_of (ReadFailed p before after) = bare.ReadFailed p
bare_of (ReadStale p wanted found) = bare.ReadStale wanted found
bare_of (PinAgain p) = bare.PinAgain p
bare_of (UnpinOnce p) = bare.UnpinOnce p
bare_of (Unpin p content) = bare.Unpin p
bare_of (UnpinRefused p) = bare.UnpinRefused p
bare_of (Extract p f) = bare.Extract p f
bare_of (Destroy p) = bare.Destroy p
bare_of (Alloc f client blocks) = bare.Alloc f client blocks
bare_of (Free f) = bare.Free f
bare_of (MoveBuffer f to) = bare.MoveBuffer f to
bare_of (StartWrite p) = bare.StartWrite p
bare_of (WriteOk p) = bare.WriteOk p
bare_of (WriteFailed p before after) = bare.WriteFailed p
bare_of (Evict p) = bare.Evict p
bare_of (Refused call entry) = bare.Refused call entry

-- the number is a writer's and no session's
abbrev pub is_writer : ℕ → Bool
is_writer maker = leb 1000 maker

-- an entry of a trace: the event alone, its maker, and whether that is a writer
abbrev pub skeleton_of : Entry → Skeleton
skeleton_of e = record { writer = is_writer e.maker; maker = e.maker; event = bare_of e.event }

-- the trace of these entries
abbrev pub skeletons : List Entry → List Skeleton
skeletons h = map skeleton_of h

-- the history is legal, and this is its trace
pub record HasTrace (o : Opening) (h : List Entry) (trace : List Skeleton) : Type 0 where
  pub legal : IsLegal o h
  pub same : skeletons h ≡ trace

-- some legal history has this trace
abbrev pub IsLegalTrace : Opening → List Skeleton → Type 0
IsLegalTrace o trace = (h : List Entry) × HasTrace o h trace

-- some entry with this skeleton may follow these entries, after which the state is this one
abbrev pub CanFollow : List Entry → State → Skeleton → Type 0
CanFollow before s k = (e : Entry) × (skeleton_of e ≡ k) × MayFollow before s e
