-- Which entry may follow.
use Rattle.std.specs.Prelude.{ℕ, ◌⊎◌, List, Some, None}
use Rattle.std.specs.Bool.{⊤}
use Rattle.pool_model.specs.declared.event.Event.{Event}
use Rattle.pool_model.specs.declared.event.Event.TheVariants.{Ask, AddTracker, CloseTracker, Increase, IncreaseToFit, Decrease, MoveReservation, Create, PinHere, PinLoad, ReadOk, ReadFailed, ReadStale, PinAgain, UnpinOnce, Unpin, UnpinRefused, Extract, Destroy, Alloc, Free, MoveBuffer, StartWrite, WriteOk, WriteFailed, Evict, Refused}
use Rattle.pool_model.specs.declared.entry.Entry.{Entry}
use Rattle.pool_model.specs.Makers.{IsSession, IsWriter}
use Rattle.pool_model.specs.State.{State}
use Rattle.pool_model.specs.TrackerRows.{MayOpenSession, MayAddClient, MayCloseTracker, MayIncrease, MayIncreaseToFit, MayDecrease, MayMoveReservation}
use Rattle.pool_model.specs.PageRows.{MayCreate, MayPinHere, MayPinLoad, MayPinAgain, MayUnpinOnce, MayUnpin, MayRefuseUnpin, MayExtract, MayDestroy, MayAlloc, MayFree, MayMoveBuffer}
use Rattle.pool_model.specs.ScratchRows.{MayEndRead, MayFailRead, MayFindStale, MayStartWrite, MayEndWrite, MayFailWrite, MayEvict}
use Rattle.pool_model.specs.Refusals.{MayRefuse}

-- sessions make all events, writers only those of writes
abbrev pub Makes : ℕ → Event → Type 0
Makes maker (StartWrite p) = IsSession maker ⊎ IsWriter maker
Makes maker (WriteOk p) = IsSession maker ⊎ IsWriter maker
Makes maker (WriteFailed p before after) = IsSession maker ⊎ IsWriter maker
Makes maker _ = IsSession maker

-- what the event needs of the state, and of the entries before it
abbrev pub Allows : List Entry → State → ℕ → Event → Type 0
Allows before s maker Ask = ⊤
Allows before s maker (AddTracker t parent limit (Some quota)) = MayOpenSession s maker t parent
Allows before s maker (AddTracker t parent limit None) = MayAddClient s maker t parent
Allows before s maker (CloseTracker t) = MayCloseTracker s maker t
Allows before s maker (Increase t bytes) = MayIncrease s maker t bytes
Allows before s maker (IncreaseToFit t bytes) = MayIncreaseToFit s maker t bytes
Allows before s maker (Decrease t bytes) = MayDecrease s maker t bytes
Allows before s maker (MoveReservation from to bytes) = MayMoveReservation s maker from to bytes
Allows before s maker (Create p client blocks key) = MayCreate s maker p client blocks
Allows before s maker (PinHere p) = MayPinHere s maker p
Allows before s maker (PinLoad p) = MayPinLoad s maker p
Allows before s maker (ReadOk p) = MayEndRead s maker p
Allows before s maker (ReadFailed p sum_before sum_after) = MayFailRead s maker p sum_before sum_after
Allows before s maker (ReadStale p wanted found) = MayFindStale s maker p wanted found
Allows before s maker (PinAgain p) = MayPinAgain s maker p
Allows before s maker (UnpinOnce p) = MayUnpinOnce s maker p
Allows before s maker (Unpin p content) = MayUnpin s maker p content
Allows before s maker (UnpinRefused p) = MayRefuseUnpin s maker p
Allows before s maker (Extract p f) = MayExtract s maker p f
Allows before s maker (Destroy p) = MayDestroy s maker p
Allows before s maker (Alloc f client blocks) = MayAlloc s maker f client blocks
Allows before s maker (Free f) = MayFree s maker f
Allows before s maker (MoveBuffer f to) = MayMoveBuffer s maker f to
Allows before s maker (StartWrite p) = MayStartWrite s maker p
Allows before s maker (WriteOk p) = MayEndWrite s maker p
Allows before s maker (WriteFailed p sum_before sum_after) = MayFailWrite s maker p sum_before sum_after
Allows before s maker (Evict p) = MayEvict s p
Allows before s maker (Refused call entry) = MayRefuse before s maker call entry

-- the entry may follow these, after which the state is this one
pub record MayFollow (before : List Entry) (s : State) (e : Entry) : Type 0 where
  pub makes : Makes e.maker e.event
  pub allows : Allows before s e.maker e.event
