-- The event of a name and numbers, if there is one.
use Rattle.std.specs.Prelude.{ℕ, ◌==◌, nat_lt, List, [], ◌∷◌, Option, Some, None, if◌then◌else◌}
use Rattle.reservation_tree.specs.declared.mark.Mark.{Mark}
use Rattle.pool_model.specs.declared.bare.Bare.{Bare}
use Rattle.pool_model.specs.declared.bare.Bare.TheVariants as bare
use Rattle.pool_model.specs.declared.call.Call.TheVariants as call
use Rattle.trace_check.specs.declared.name.Name.{Name}
use Rattle.trace_check.specs.declared.name.Name.TheVariants as name

-- what goes on with a number, if u32 holds it
abbrev pub if_u32 : {X : Type 0} → ℕ → (ℕ → Option X) → Option X
if_u32 n next = if nat_lt n 4294967296 then next n else None

-- the mark of a block, by its numbers
abbrev pub marked : ℕ → ℕ → ℕ → Mark
marked page version block = record { name = page; version = version; block = block }

-- the event of a name and numbers
abbrev pub event_from : Name → List ℕ → Option Bare
event_from name.Ask [] = Some bare.Ask
event_from name.AddTracker (t ∷ parent ∷ limit ∷ []) = if_u32 t (λ t. if_u32 parent (λ parent. if parent == 0 then None else Some (bare.AddTracker t parent limit None)))
event_from name.AddTracker (t ∷ parent ∷ limit ∷ quota ∷ []) = if_u32 t (λ t. if_u32 parent (λ parent. if_u32 quota (λ quota. if parent == 0 then Some (bare.AddTracker t parent limit (Some quota)) else None)))
event_from name.CloseTracker (t ∷ []) = if_u32 t (λ t. Some (bare.CloseTracker t))
event_from name.Increase (t ∷ bytes ∷ []) = if_u32 t (λ t. Some (bare.Increase t bytes))
event_from name.IncreaseToFit (t ∷ bytes ∷ []) = if_u32 t (λ t. Some (bare.IncreaseToFit t bytes))
event_from name.Decrease (t ∷ bytes ∷ []) = if_u32 t (λ t. Some (bare.Decrease t bytes))
event_from name.MoveReservation (from ∷ to ∷ bytes ∷ []) = if_u32 from (λ from. if_u32 to (λ to. Some (bare.MoveReservation from to bytes)))
event_from name.Create (p ∷ client ∷ blocks ∷ []) = if_u32 client (λ client. if_u32 blocks (λ blocks. Some (bare.Create p client blocks)))
event_from name.PinHere (p ∷ []) = Some (bare.PinHere p)
event_from name.PinLoad (p ∷ []) = Some (bare.PinLoad p)
event_from name.ReadOk (p ∷ []) = Some (bare.ReadOk p)
event_from name.ReadFailed (p ∷ []) = Some (bare.ReadFailed p)
event_from name.ReadStale (p ∷ version ∷ block ∷ q ∷ other ∷ found ∷ []) = if_u32 block (λ block. if_u32 found (λ found. Some (bare.ReadStale (marked p version block) (marked q other found))))
event_from name.PinAgain (p ∷ []) = Some (bare.PinAgain p)
event_from name.UnpinOnce (p ∷ []) = Some (bare.UnpinOnce p)
event_from name.Unpin (p ∷ []) = Some (bare.Unpin p)
event_from name.UnpinRefused (p ∷ []) = Some (bare.UnpinRefused p)
event_from name.Extract (p ∷ f ∷ []) = if_u32 f (λ f. Some (bare.Extract p f))
event_from name.Destroy (p ∷ []) = Some (bare.Destroy p)
event_from name.Alloc (f ∷ client ∷ blocks ∷ []) = if_u32 f (λ f. if_u32 client (λ client. if_u32 blocks (λ blocks. Some (bare.Alloc f client blocks))))
event_from name.Free (f ∷ []) = if_u32 f (λ f. Some (bare.Free f))
event_from name.MoveBuffer (f ∷ to ∷ []) = if_u32 f (λ f. if_u32 to (λ to. Some (bare.MoveBuffer f to)))
event_from name.StartWrite (p ∷ []) = Some (bare.StartWrite p)
event_from name.WriteOk (p ∷ []) = Some (bare.WriteOk p)
event_from name.WriteFailed (p ∷ []) = Some (bare.WriteFailed p)
event_from name.Evict (p ∷ []) = Some (bare.Evict p)
event_from name.RefusedPin (p ∷ entry ∷ []) = Some (bare.Refused (call.Pin p) entry)
event_from name.RefusedPinAgain (p ∷ entry ∷ []) = Some (bare.Refused (call.PinAgain p) entry)
event_from name.RefusedCreate (client ∷ blocks ∷ entry ∷ []) = if_u32 client (λ client. if_u32 blocks (λ blocks. Some (bare.Refused (call.Create client blocks) entry)))
event_from name.RefusedAlloc (client ∷ blocks ∷ entry ∷ []) = if_u32 client (λ client. if_u32 blocks (λ blocks. Some (bare.Refused (call.Alloc client blocks) entry)))
event_from name.RefusedGiveBack (client ∷ bytes ∷ entry ∷ []) = if_u32 client (λ client. Some (bare.Refused (call.GiveBack client bytes) entry))
event_from name.RefusedMoveReservation (from ∷ to ∷ bytes ∷ entry ∷ []) = if_u32 from (λ from. if_u32 to (λ to. Some (bare.Refused (call.MoveReservation from to bytes) entry)))
event_from name.RefusedMoveBuffer (f ∷ to ∷ entry ∷ []) = if_u32 f (λ f. if_u32 to (λ to. Some (bare.Refused (call.MoveBuffer f to) entry)))
event_from _ _ = None
