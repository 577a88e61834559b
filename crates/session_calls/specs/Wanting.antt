-- What a call needs room for.
use Rattle.std.specs.Prelude.{◌≡◌, ℕ, List, Bool, IsSome}
use Rattle.std.specs.List.{list_any}
use Rattle.std.specs.Bool.{⊤}
use Rattle.pool_model.specs.declared.call.Call.{Call}
use Rattle.pool_model.specs.declared.call.Call.TheVariants.{Pin, PinAgain, Create, Alloc, GiveBack, MoveReservation, MoveBuffer}
use Rattle.pool_model.specs.declared.entry.Entry.{Entry}
use Rattle.pool_model.specs.LookingBack.{is_ask}
use Rattle.pool_model.specs.State.{State, page_at}
use Rattle.store_api.specs.Holdings.{Holdings, IsPageOf, length_of, page_len, loan_len}
use Rattle.pin_core.specs.calls.PinTurns.{IsStored}

-- its client, and how many bytes
abbrev pub Wants : ℕ → ℕ → Holdings → Call → Type 0
Wants t amount h (Pin p) = IsPageOf t h p × (amount ≡ page_len p h)
Wants t amount h (PinAgain p) = IsPageOf t h p × (amount ≡ page_len p h)
Wants t amount h (Create client blocks) = (client ≡ t) × (amount ≡ length_of blocks h)
Wants t amount h (Alloc client blocks) = (client ≡ t) × (amount ≡ length_of blocks h)
Wants t amount h (GiveBack client bytes) = (client ≡ t) × (amount ≡ bytes)
Wants t amount h (MoveReservation from to bytes) = (from ≡ t) × IsSome (h.clients to) × (amount ≡ bytes)
Wants t amount h (MoveBuffer f to) = (to ≡ t) × IsSome (h.loans f) × (amount ≡ loan_len f h)

-- where the call is a pin, its page isn't in memory, or is there and clean
abbrev pub IsStoredFor : State → Call → Type 0
IsStoredFor s (Pin p) = IsStored (page_at s p).place
IsStoredFor s _ = ⊤

-- the call is no pin
abbrev pub IsRoomCall : Call → Type 0
IsRoomCall (Pin p) = ⊥
IsRoomCall _ = ⊤

-- a call was begun
abbrev pub has_asked : List Entry → Bool
has_asked h = list_any (λ e. is_ask e.event) h
