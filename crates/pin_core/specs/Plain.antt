-- Entries that end no write well, and of which none is a failure or a stale load.
use Rattle.std.specs.Prelude.{◌≡◌, ℕ, List, Bool, true, false, Option}
use Rattle.std.specs.List.{AllByRecursion}
use Rattle.page_table.specs.declared.page_id.PageId.{PageId}
use Rattle.pool_model.specs.declared.event.Event.{Event as What}
use Rattle.pool_model.specs.declared.event.Event.TheVariants.{ReadFailed, ReadStale, WriteOk, WriteFailed}
use Rattle.pool_model.specs.declared.entry.Entry.{Entry as Event}
use Rattle.store_api.specs.Tokens.{ClientToken}
use Rattle.pin_core.specs.declared.jobs.WriteJob.{WriteJob}
use Rattle.pin_core.specs.declared.parts.Parts.{Parts}
use Rattle.pin_core.specs.declared.pin.PinTurn.{PinTurn}
use Rattle.pin_core.specs.declared.room.RoomTurn.{RoomTurn}
use Rattle.pin_core.specs.calls.Coming.{alloc_entries, create_entries}
use Rattle.pin_core.specs.calls.PinTurns.{pin_entries}
use Rattle.pin_core.specs.calls.Turns.{room_entries, start_entries}

-- no failure, no write that ended well, and no load that gave another mark
abbrev pub is_plain : What → Bool
is_plain (ReadFailed p before now) = false
is_plain (ReadStale p wanted found) = false
is_plain (WriteOk p) = false
is_plain (WriteFailed p before now) = false
is_plain _ = true

abbrev pub ArePlain : List Event → Type 0
ArePlain events = AllByRecursion (λ e. is_plain e.event ≡ true) events

-- so are those of a pin, of a call that wants room, of a write that starts, and of a page and a loan that come
abbrev pub PinsArePlain : Type 0 → Type 0
PinsArePlain D = (session p : ℕ) (old : Parts D) (turn : PinTurn D) → ArePlain (pin_entries session p old turn)

abbrev pub RoomsArePlain : Type 0 → Type 0
RoomsArePlain D = (session : ℕ) (turn : RoomTurn D) → ArePlain (room_entries session turn)

abbrev pub StartsArePlain : Type 0 → Type 0
StartsArePlain D = (who : ℕ) (job : Option (WriteJob D)) → ArePlain (start_entries who job)

abbrev pub CreatesArePlain : Type 0 → Type 0
CreatesArePlain D = (c : ClientToken) (id : PageId) (blocks : ℕ) (old : Parts D) → ArePlain (create_entries c id blocks old)

abbrev pub AllocsArePlain : Type 0 → Type 0
AllocsArePlain D = (c : ClientToken) (f blocks : ℕ) (old : Parts D) → ArePlain (alloc_entries c f blocks old)
