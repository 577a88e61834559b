-- What a dirty page takes along.
use Rattle.std.proofs.Common.{◌≡◌, ℕ, List, length, sym}
use Rattle.std.proofs.lemmas.Bool.{false≢true}
use Rattle.block_arena.specs.Memory.{IsBufferOf}
use Rattle.page_table.specs.declared.entry.Place.TheVariants as spot
use Rattle.page_table.specs.declared.entry.Mem.{Mem}
use Rattle.page_table.specs.declared.entry.Mem.TheVariants as mem
use Rattle.pin_core.specs.declared.kept.Kept.{Kept}
use Rattle.pin_core.specs.declared.kept.Kept.TheVariants as kept
use Rattle.pin_core.specs.parts.Keeping.{row_in}
use Rattle.pin_core.specs.Invariant.{IsHeld, IsKeptOf}
use Rattle.pin_core.specs.Standing.{MemHolds}
use Rattle.pin_core.specs.parts.Flights.{buffer_in}

pub taken_buffer : (len blocks : ℕ) (m : Mem) → IsHeld len blocks m → IsBufferOf blocks len (buffer_in m)
taken_buffer len blocks (mem.Held buf) is = is
taken_buffer len blocks (mem.Empty shell) is = absurd is
taken_buffer len blocks mem.Out is = absurd is

pub taken_bytes : (len blocks : ℕ) (m : Mem) (bytes : List ℕ) → IsHeld len blocks m → MemHolds bytes m → (buffer_in m).bytes ≡ bytes
taken_bytes len blocks (mem.Held buf) bytes is holds = holds
taken_bytes len blocks (mem.Empty shell) bytes is holds = absurd is
taken_bytes len blocks mem.Out bytes is holds = absurd is

pub taken_slots : {D : Type 0} (blocks : ℕ) (k : Kept D) → IsKeptOf blocks spot.Dirty k → length (row_in k) ≡ blocks
taken_slots blocks (kept.Empty shell) is = absurd (false≢true is.0)
taken_slots blocks (kept.Held row) is = is.1
taken_slots blocks kept.Out is = absurd (false≢true (sym is))
