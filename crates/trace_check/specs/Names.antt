-- The names of events, as a trace spells them.
use Rattle.std.specs.Prelude.{ℕ, List, [], ◌∷◌, codes}
use Rattle.pool_model.specs.declared.bare.Bare.{Bare}
use Rattle.pool_model.specs.declared.bare.Bare.TheVariants as bare
use Rattle.pool_model.specs.declared.call.Call.{Call}
use Rattle.pool_model.specs.declared.call.Call.TheVariants as call
use Rattle.trace_check.specs.declared.name.Name.{Name}
use Rattle.trace_check.specs.declared.name.Name.TheVariants as name

-- the text of a name
abbrev pub spelled : Name → List ℕ
spelled name.Ask = codes "Ask"
spelled name.AddTracker = codes "AddTracker"
spelled name.CloseTracker = codes "CloseTracker"
spelled name.Increase = codes "Increase"
spelled name.IncreaseToFit = codes "IncreaseToFit"
spelled name.Decrease = codes "Decrease"
spelled name.MoveReservation = codes "MoveReservation"
spelled name.Create = codes "Create"
spelled name.PinHere = codes "PinHere"
spelled name.PinLoad = codes "PinLoad"
spelled name.ReadOk = codes "ReadOk"
spelled name.ReadFailed = codes "ReadFailed"
spelled name.ReadStale = codes "ReadStale"
spelled name.PinAgain = codes "PinAgain"
spelled name.UnpinOnce = codes "UnpinOnce"
spelled name.Unpin = codes "Unpin"
spelled name.UnpinRefused = codes "UnpinRefused"
spelled name.Extract = codes "Extract"
spelled name.Destroy = codes "Destroy"
spelled name.Alloc = codes "Alloc"
spelled name.Free = codes "Free"
spelled name.MoveBuffer = codes "MoveBuffer"
spelled name.StartWrite = codes "StartWrite"
spelled name.WriteOk = codes "WriteOk"
spelled name.WriteFailed = codes "WriteFailed"
spelled name.Evict = codes "Evict"
spelled name.RefusedPin = codes "Refused pin"
spelled name.RefusedPinAgain = codes "Refused pin_again"
spelled name.RefusedCreate = codes "Refused create"
spelled name.RefusedAlloc = codes "Refused alloc"
spelled name.RefusedGiveBack = codes "Refused give_back"
spelled name.RefusedMoveReservation = codes "Refused move_reservation"
spelled name.RefusedMoveBuffer = codes "Refused move_buffer"

-- the name of a refusal of this call
abbrev pub refusal_of : Call → Name
refusal_of (call.Pin p) = name.RefusedPin
refusal_of (call.PinAgain p) = name.RefusedPinAgain
refusal_of (call.Create client blocks) = name.RefusedCreate
refusal_of (call.Alloc client blocks) = name.RefusedAlloc
refusal_of (call.GiveBack client bytes) = name.RefusedGiveBack
refusal_of (call.MoveReservation from to bytes) = name.RefusedMoveReservation
refusal_of (call.MoveBuffer f to) = name.RefusedMoveBuffer

-- the name of an event
abbrev pub name_of : Bare → Name
name_of bare.Ask = name.Ask
name_of (bare.AddTracker t parent limit quota) = name.AddTracker
name_of (bare.CloseTracker t) = name.CloseTracker
name_of (bare.Increase t bytes) = name.Increase
name_of (bare.IncreaseToFit t bytes) = name.IncreaseToFit
name_of (bare.Decrease t bytes) = name.Decrease
name_of (bare.MoveReservation from to bytes) = name.MoveReservation
name_of (bare.Create p client blocks) = name.Create
name_of (bare.PinHere p) = name.PinHere
name_of (bare.PinLoad p) = name.PinLoad
name_of (bare.ReadOk p) = name.ReadOk
name_of (bare.ReadFailed p) = name.ReadFailed
name_of (bare.ReadStale wanted found) = name.ReadStale
name_of (bare.PinAgain p) = name.PinAgain
name_of (bare.UnpinOnce p) = name.UnpinOnce
name_of (bare.Unpin p) = name.Unpin
name_of (bare.UnpinRefused p) = name.UnpinRefused
name_of (bare.Extract p f) = name.Extract
name_of (bare.Destroy p) = name.Destroy
name_of (bare.Alloc f client blocks) = name.Alloc
name_of (bare.Free f) = name.Free
name_of (bare.MoveBuffer f to) = name.MoveBuffer
name_of (bare.StartWrite p) = name.StartWrite
name_of (bare.WriteOk p) = name.WriteOk
name_of (bare.WriteFailed p) = name.WriteFailed
name_of (bare.Evict p) = name.Evict
name_of (bare.Refused refused entry) = refusal_of refused

-- all names
abbrev pub names : List Name
names = name.Unpin ∷ name.PinHere ∷ name.StartWrite ∷ name.WriteOk ∷ name.Evict ∷ name.PinLoad ∷ name.ReadOk ∷ name.Create ∷ name.Destroy ∷ name.PinAgain ∷ name.UnpinOnce ∷ name.Ask ∷ name.Alloc ∷ name.Free ∷ name.Extract ∷ name.MoveBuffer ∷ name.Increase ∷ name.IncreaseToFit ∷ name.Decrease ∷ name.MoveReservation ∷ name.AddTracker ∷ name.CloseTracker ∷ name.UnpinRefused ∷ name.WriteFailed ∷ name.ReadFailed ∷ name.ReadStale ∷ name.RefusedPin ∷ name.RefusedPinAgain ∷ name.RefusedCreate ∷ name.RefusedAlloc ∷ name.RefusedGiveBack ∷ name.RefusedMoveReservation ∷ name.RefusedMoveBuffer ∷ []
