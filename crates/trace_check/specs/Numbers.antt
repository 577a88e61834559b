-- The numbers of an event, in the order in which a trace has them, and which of them its types can hold.
use Rattle.std.specs.Prelude.{ℕ, ◌≡◌, ◌<◌, ◌^◌, ◌++◌, List, [], ◌∷◌, Some, None}
use Rattle.std.specs.Bool.{⊤}
use Rattle.reservation_tree.specs.declared.mark.Mark.{Mark}
use Rattle.pool_model.specs.declared.bare.Bare.{Bare}
use Rattle.pool_model.specs.declared.bare.Bare.TheVariants as bare
use Rattle.pool_model.specs.declared.call.Call.{Call}
use Rattle.pool_model.specs.declared.call.Call.TheVariants as call

-- the numbers of a call
abbrev pub call_numbers : Call → List ℕ
call_numbers (call.Pin p) = p ∷ []
call_numbers (call.PinAgain p) = p ∷ []
call_numbers (call.Create client blocks) = client ∷ blocks ∷ []
call_numbers (call.Alloc client blocks) = client ∷ blocks ∷ []
call_numbers (call.GiveBack client bytes) = client ∷ bytes ∷ []
call_numbers (call.MoveReservation from to bytes) = from ∷ to ∷ bytes ∷ []
call_numbers (call.MoveBuffer f to) = f ∷ to ∷ []

-- the numbers of a block's mark: its page, version and block
abbrev pub mark_numbers : Mark → List ℕ
mark_numbers m = m.name ∷ m.version ∷ m.block ∷ []

-- the numbers of an event
abbrev pub numbers_of : Bare → List ℕ
numbers_of bare.Ask = []
numbers_of (bare.AddTracker t parent limit None) = t ∷ parent ∷ limit ∷ []
numbers_of (bare.AddTracker t parent limit (Some quota)) = t ∷ parent ∷ limit ∷ quota ∷ []
numbers_of (bare.CloseTracker t) = t ∷ []
numbers_of (bare.Increase t bytes) = t ∷ bytes ∷ []
numbers_of (bare.IncreaseToFit t bytes) = t ∷ bytes ∷ []
numbers_of (bare.Decrease t bytes) = t ∷ bytes ∷ []
numbers_of (bare.MoveReservation from to bytes) = from ∷ to ∷ bytes ∷ []
numbers_of (bare.Create p client blocks) = p ∷ client ∷ blocks ∷ []
numbers_of (bare.PinHere p) = p ∷ []
numbers_of (bare.PinLoad p) = p ∷ []
numbers_of (bare.ReadOk p) = p ∷ []
numbers_of (bare.ReadFailed p) = p ∷ []
numbers_of (bare.ReadStale wanted found) = mark_numbers wanted ++ mark_numbers found
numbers_of (bare.PinAgain p) = p ∷ []
numbers_of (bare.UnpinOnce p) = p ∷ []
numbers_of (bare.Unpin p) = p ∷ []
numbers_of (bare.UnpinRefused p) = p ∷ []
numbers_of (bare.Extract p f) = p ∷ f ∷ []
numbers_of (bare.Destroy p) = p ∷ []
numbers_of (bare.Alloc f client blocks) = f ∷ client ∷ blocks ∷ []
numbers_of (bare.Free f) = f ∷ []
numbers_of (bare.MoveBuffer f to) = f ∷ to ∷ []
numbers_of (bare.StartWrite p) = p ∷ []
numbers_of (bare.WriteOk p) = p ∷ []
numbers_of (bare.WriteFailed p) = p ∷ []
numbers_of (bare.Evict p) = p ∷ []
numbers_of (bare.Refused refused entry) = call_numbers refused ++ entry ∷ []

-- a number that u32 holds
abbrev pub IsU32 : ℕ → Type 0
IsU32 n = n < 2 ^ 32

-- u32 holds the numbers of trackers, buffers and blocks
abbrev pub CallInForm : Call → Type 0
CallInForm (call.Pin p) = ⊤
CallInForm (call.PinAgain p) = ⊤
CallInForm (call.Create client blocks) = IsU32 client × IsU32 blocks
CallInForm (call.Alloc client blocks) = IsU32 client × IsU32 blocks
CallInForm (call.GiveBack client bytes) = IsU32 client
CallInForm (call.MoveReservation from to bytes) = IsU32 from × IsU32 to
CallInForm (call.MoveBuffer f to) = IsU32 f × IsU32 to

-- the same, and a quota stands exactly under the root
abbrev pub EventInForm : Bare → Type 0
EventInForm bare.Ask = ⊤
EventInForm (bare.AddTracker t parent limit None) = IsU32 t × IsU32 parent × (0 < parent)
EventInForm (bare.AddTracker t parent limit (Some quota)) = IsU32 t × (parent ≡ 0) × IsU32 quota
EventInForm (bare.CloseTracker t) = IsU32 t
EventInForm (bare.Increase t bytes) = IsU32 t
EventInForm (bare.IncreaseToFit t bytes) = IsU32 t
EventInForm (bare.Decrease t bytes) = IsU32 t
EventInForm (bare.MoveReservation from to bytes) = IsU32 from × IsU32 to
EventInForm (bare.Create p client blocks) = IsU32 client × IsU32 blocks
EventInForm (bare.PinHere p) = ⊤
EventInForm (bare.PinLoad p) = ⊤
EventInForm (bare.ReadOk p) = ⊤
EventInForm (bare.ReadFailed p) = ⊤
EventInForm (bare.ReadStale wanted found) = IsU32 wanted.block × IsU32 found.block
EventInForm (bare.PinAgain p) = ⊤
EventInForm (bare.UnpinOnce p) = ⊤
EventInForm (bare.Unpin p) = ⊤
EventInForm (bare.UnpinRefused p) = ⊤
EventInForm (bare.Extract p f) = IsU32 f
EventInForm (bare.Destroy p) = ⊤
EventInForm (bare.Alloc f client blocks) = IsU32 f × IsU32 client × IsU32 blocks
EventInForm (bare.Free f) = IsU32 f
EventInForm (bare.MoveBuffer f to) = IsU32 f × IsU32 to
EventInForm (bare.StartWrite p) = ⊤
EventInForm (bare.WriteOk p) = ⊤
EventInForm (bare.WriteFailed p) = ⊤
EventInForm (bare.Evict p) = ⊤
EventInForm (bare.Refused refused entry) = CallInForm refused
