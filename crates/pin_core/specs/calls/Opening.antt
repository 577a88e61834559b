-- How sessions begin and end.
use Rattle.std.specs.Prelude.{◌≡◌, ℕ, ◌-◌, ◌<◌, ◌⊎◌, List, [], ◌∷◌, leb, if◌then◌else◌, Option, Some, None}
use Rattle.std.specs.FinMap.{get}
use Rattle.outside.specs.declared.slot.Slot.{Ghosts}
use Rattle.reservation_tree.specs.Answer.{IsFrom}
use Rattle.reservation_tree.specs.Change.{Refusal, or_else, over}
use Rattle.reservation_tree.specs.Tracker.{reservation_of, room_of}
use Rattle.reservation_tree.specs.declared.errors.PoolErr.{PoolErr}
use Rattle.pool_model.specs.declared.entry.Entry.{Entry}
use Rattle.pool_model.specs.State.{State}
use Rattle.pin_core.specs.declared.parts.Parts.{Parts}
use Rattle.pin_core.specs.StateOf.{state_of}
use Rattle.pin_core.specs.Standing.{Enters}
use Rattle.pin_core.specs.calls.Sessions.{query_of}
use Rattle.pin_core.specs.calls.Entering.{session_entry, increase_entry, decrease_entry, move_entry, close_entry, unused_of}

-- the slots in no quota
abbrev pub spare_of : {D : Type 0} → Parts D → ℕ
spare_of v = v.slots.spare

-- a client gives its reservation to the query, and leaves
abbrev pub leaving_entries : State → ℕ → ℕ → List Entry
leaving_entries s m c = move_entry m c (query_of s m) (reservation_of s.trackers c) ∷ close_entry m c ∷ []

-- a session's query tracker comes, and gets its least reservation
abbrev pub opening_entries : ℕ → ℕ → ℕ → ℕ → ℕ → List Entry
opening_entries m t limit quota least = session_entry m limit quota t ∷ increase_entry m t least ∷ []

-- it comes and goes
abbrev pub reopening_entries : ℕ → ℕ → ℕ → ℕ → List Entry
reopening_entries m t limit quota = session_entry m limit quota t ∷ close_entry m t ∷ []

-- a session's reservation goes, and then its query tracker
abbrev pub ending_entries : State → ℕ → List Entry
ending_entries s m = decrease_entry m (query_of s m) (reservation_of s.trackers (query_of s m)) ∷ close_entry m (query_of s m) ∷ []

-- how much the root has to grow where a query tracker gets its least reservation
abbrev pub root_growth : State → ℕ → ℕ
root_growth s least = least - unused_of s 0

-- a new session can't get its least reservation: it passes its own limit, or the root has no room for it
abbrev pub LacksLeast : State → ℕ → ℕ → Type 0
LacksLeast s limit least = (limit < least) ⊎ (room_of s.trackers 0 < root_growth s least)

-- why, where its query tracker has this number
abbrev pub least_refusal : State → ℕ → ℕ → ℕ → Option Refusal
least_refusal s t limit least =
    or_else (if leb least limit then None else Some (record { tracker = t; wanted = least; room = limit })) (over s.trackers (root_growth s least) 0)

-- a session came and went again, since it couldn't get its least reservation
pub record ClosedAgain {D : Type 0} (slot : Ghosts D) (limit quota least : ℕ) (old new : Parts D) (e : PoolErr) : Type 0 where
  pub maker : ℕ
  pub tracker : ℕ
  pub vacant : get (state_of old).sessions maker ≡ None
  pub enters : Enters slot (reopening_entries maker tracker limit quota) [] [] old new
  pub cause : IsFrom (least_refusal (state_of old) tracker limit least) e
