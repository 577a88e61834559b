-- The steps of a call that pins a page, by the parts. No public clause cites this module.
use Rattle.std.specs.Prelude.{ℕ, ◌≡◌, ◌≢◌, ◌≤◌, ◌⊎◌, List, Some}
use Rattle.std.specs.FinMap.{get}
use Rattle.block_arena.specs.Memory.{Buffer, IsBufferOf}
use Rattle.page_table.specs.declared.page_id.PageId.{PageId}
use Rattle.page_table.specs.declared.entry.Place.{Place as Spot}
use Rattle.page_table.specs.declared.entry.Place.TheVariants as spot
use Rattle.page_table.specs.declared.entry.Entry.{Entry}
use Rattle.reservation_tree.specs.Tree.{charge_of as charge_in}
use Rattle.reservation_tree.specs.Tracker.{unused}
use Rattle.pool_model.specs.Bytes.{bytes_of}
use Rattle.pool_model.specs.Sums.{HasRoom}
use Rattle.pin_core.specs.declared.kept.Kept.{Kept}
use Rattle.pin_core.specs.declared.jobs.ReadJob.{ReadJob}
use Rattle.pin_core.specs.declared.parts.Parts.{Parts}
use Rattle.pin_core.specs.declared.pin.PinTurn.{PinTurn}
use Rattle.pin_core.specs.declared.pin.PinTurn.TheVariants.{Here, Load, Refused, Write, Wait}
use Rattle.pin_core.specs.declared.room.RoomTurn.TheVariants as turn
use Rattle.pin_core.specs.StateOf.{state_of}
use Rattle.pin_core.specs.parts.Flights.{buffer_in}
use Rattle.pin_core.specs.calls.Evictions.{names_gone, with_room}
use Rattle.pin_core.specs.parts.Pinning.{pinned_dirty, pinned_clean}
use Rattle.pin_core.specs.parts.Loads.{loaded_over, read_job}
use Rattle.pin_core.specs.calls.Turns.{TurnIs}

-- the page's bytes are on scratch, in memory too or not
abbrev pub IsAway : Spot → Type 0
IsAway at = (at ≡ spot.Clean) ⊎ (at ≡ spot.Evicted)

module _ {D : Type 0} where
  -- a live page of the session that is neither pinned nor loading, and whose length its client has unused
  pub record CanPinAt (v : Parts D) (session : ℕ) (id : PageId) (x : Entry (Kept D)) : Type 0 where
    pub live : get v.pages.names id.key ≡ Some id.name
    pub there : get v.pages.entries id.name ≡ Some x
    pub own : x.session ≡ session
    pub unpinned : (count : ℕ) → x.place ≢ spot.Pinned count
    pub unloaded : x.place ≢ spot.Loading
    pub unused : bytes_of v.arena.block_len x.blocks ≤ unused (charge_in v.tree) v.tree.trackers x.client

  abbrev pub bytes_at : Parts D → Entry (Kept D) → ℕ
  bytes_at v x = bytes_of v.arena.block_len x.blocks

  -- a clean page was pinned
  pub record IsPinnedClean (v new : Parts D) (id : PageId) (x : Entry (Kept D)) (buf : Buffer) : Type 0 where
    pub clean : x.place ≡ spot.Clean
    pub room : HasRoom (state_of v) x.client (bytes_at v x)
    pub parts : new ≡ pinned_clean id x v
    pub buffer : buf ≡ buffer_in x.mem

  pub record IsPinnedDirty (v new : Parts D) (id : PageId) (x : Entry (Kept D)) (buf : Buffer) : Type 0 where
    pub dirty : x.place ≡ spot.Dirty
    pub parts : new ≡ pinned_dirty id x v
    pub buffer : buf ≡ buffer_in x.mem

  -- an evicted page is loaded
  pub record IsLoaded (v new : Parts D) (id : PageId) (x : Entry (Kept D)) (job : ReadJob D) : Type 0 where
    pub evicted : x.place ≡ spot.Evicted
    pub room : HasRoom (state_of v) x.client (bytes_at v x)
    pub enough : x.blocks ≤ (with_room x.blocks v).arena.free
    pub parts : new ≡ loaded_over id x v
    pub is : job ≡ read_job v.marked id x job.buf
    pub buffer : IsBufferOf x.blocks v.arena.block_len job.buf

  -- the answer, by the parts
  abbrev pub PinIs : Parts D → Parts D → ℕ → PageId → Entry (Kept D) → PinTurn D → Type 0
  PinIs v new session id x (Here buf) = IsPinnedDirty v new id x buf ⊎ IsPinnedClean v new id x buf
  PinIs v new session id x (Load job) = IsLoaded v new id x job
  PinIs v new session id x (Refused entry) = IsAway x.place × TurnIs v new session x.client (bytes_at v x) (turn.Refused entry)
  PinIs v new session id x (Write job) = IsAway x.place × TurnIs v new session x.client (bytes_at v x) (turn.Write job)
  PinIs v new session id x Wait = (((writer : ℕ) × (x.place ≡ spot.Flying writer)) × (new ≡ v)) ⊎ (IsAway x.place × TurnIs v new session x.client (bytes_at v x) turn.Wait)

  -- which pages a load evicted; any other answer leaves what was told before
  abbrev pub told_gone : List ℕ → Entry (Kept D) → Parts D → PinTurn D → List ℕ
  told_gone before x v (Load job) = names_gone x.blocks v
  told_gone before x v _ = before
