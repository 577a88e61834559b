-- What a call that pins a page is to do next.
use Rattle.std.specs.Prelude.{ℕ, ◌≡◌, ◌≢◌, ◌≤◌, ◌⊎◌, ◌∷◌, [], List, Option, Some, None, false}
use Rattle.outside.specs.declared.slot.Slot.{Ghosts}
use Rattle.block_arena.specs.Memory.{Buffer, IsBufferOf}
use Rattle.reservation_tree.specs.Tracker.{unused}
use Rattle.pool_model.specs.declared.entry.Entry.{Entry as Event}
use Rattle.pool_model.specs.declared.event.Event.TheVariants as event
use Rattle.pool_model.specs.State.{Place, Pinned, Dirty, Flying, Loading, Clean, Evicted, Opening, State, page_at}
use Rattle.pool_model.specs.Sums.{charge_of, length_of}
use Rattle.pool_model.specs.PageRows.{IsCleanWithRoom}
use Rattle.pool_model.specs.LookingBack.{content_of}
use Rattle.store_api.specs.Tokens.{PageToken}
use Rattle.pin_core.specs.declared.jobs.ReadJob.{ReadJob}
use Rattle.pin_core.specs.declared.parts.Parts.{Parts}
use Rattle.pin_core.specs.declared.pin.PinTurn.{PinTurn}
use Rattle.pin_core.specs.declared.pin.PinTurn.TheVariants.{Here, Load, Refused, Write, Wait}
use Rattle.pin_core.specs.StateOf.{state_of}
use Rattle.pin_core.specs.Standing.{StandsFor, AreHeld}
use Rattle.pin_core.specs.calls.Needs.{IsPage, id_in}
use Rattle.pin_core.specs.calls.Jobs.{IsReadJob}
use Rattle.pin_core.specs.calls.Pins.{HasRoomFor}
use Rattle.pin_core.specs.calls.Evictions.{MakesRoom, names_gone}
use Rattle.pin_core.specs.parts.Loads.{load_entries}
use Rattle.pin_core.specs.calls.Turns.{LacksRoom, IsWriting, IsStarted, start_entry}

-- a live page of the session that is neither pinned nor loading, and whose length its client has unused
pub record CanPin (s : State) (session : ℕ) (p : PageToken) : Type 0 where
  pub page : IsPage s p
  pub own : (page_at s p.name).session ≡ session
  pub unpinned : (count : ℕ) → (page_at s p.name).place ≢ Pinned count
  pub unloaded : (page_at s p.name).place ≢ Loading
  pub unused : length_of s (page_at s p.name).blocks ≤ unused (charge_of s) s.trackers (page_at s p.name).client

-- the page's bytes are on scratch, in memory too or not
abbrev pub IsStored : Place → Type 0
IsStored at = (at ≡ Clean) ⊎ (at ≡ Evicted)

-- the page is dirty, or clean with room for it
abbrev pub CanPinHere : State → ℕ → Type 0
CanPinHere s p = ((page_at s p).place ≡ Dirty) ⊎ IsCleanWithRoom s (page_at s p)

-- a page is on scratch, its client lacks the room for it, and this is the first failure, if there is one
pub record LacksRoomFor (s : State) (session p : ℕ) (failure : Option ℕ) : Type 0 where
  pub stored : IsStored (page_at s p).place
  pub lacks : LacksRoom s session (page_at s p).client (length_of s (page_at s p).blocks) failure

module _ {D : Type 0} where
  -- the buffer is the page's, with its content
  pub record IsContent (slot : Ghosts D) (p : ℕ) (buf : Buffer) (old : Parts D) : Type 0 where
    pub whole : IsBufferOf (page_at (state_of old) p).blocks (state_of old).block_len buf
    pub content : (o : Opening) (h : List Event) → StandsFor slot o h old → buf.bytes ≡ content_of o h p

  -- the job loads the page, from slots that hold its content; clean pages make room for its blocks
  pub record IsLoad (slot : Ghosts D) (p : PageToken) (job : ReadJob D) (old new : Parts D) : Type 0 where
    pub is : IsReadJob (state_of new) job
    pub id : job.id ≡ id_in p
    pub whole : job.failed ≡ false
    pub fresh : job.stale ≡ None
    pub goes : MakesRoom (state_of old) (length_of (state_of old) (page_at (state_of old) p.name).blocks) (names_gone (page_at (state_of old) p.name).blocks old)
    pub content : (o : Opening) (h : List Event) → StandsFor slot o h old → AreHeld slot job.under p.name (state_of old).block_len job.row (content_of o h p.name)

  -- exactly the answer that applies; all but a pin, a load and a start of a write leave all as it was
  abbrev pub PinAnswer : Ghosts D → Parts D → Parts D → ℕ → PageToken → PinTurn D → Type 0
  PinAnswer slot old new session p (Here buf) = CanPinHere (state_of old) p.name × IsContent slot p.name buf old
  PinAnswer slot old new session p (Load job) = ((page_at (state_of old) p.name).place ≡ Evicted) × HasRoomFor (state_of old) p.name × IsLoad slot p job old new
  PinAnswer slot old new session p (Refused entry) = LacksRoomFor (state_of old) session p.name (Some entry) × (new ≡ old)
  PinAnswer slot old new session p (Write job) = LacksRoomFor (state_of old) session p.name None × IsStarted slot session (page_at (state_of old) p.name).client job old new
  PinAnswer slot old new session p Wait =
      (((writer : ℕ) × ((page_at (state_of old) p.name).place ≡ Flying writer)) ⊎ (LacksRoomFor (state_of old) session p.name None × IsWriting (state_of old) (page_at (state_of old) p.name).client))
      × (new ≡ old)

  -- what is entered, and which slots go
  abbrev pub pin_entries : ℕ → ℕ → Parts D → PinTurn D → List Event
  pin_entries session p old (Here buf) = record { maker = session; event = event.PinHere p } ∷ []
  pin_entries session p old (Load job) = load_entries session p (page_at (state_of old) p).blocks old
  pin_entries session p old (Write job) = start_entry session job.id.name ∷ []
  pin_entries session p old _ = []

  abbrev pub pin_slots : PinTurn D → List D
  pin_slots (Load job) = job.row
  pin_slots (Write job) = job.row
  pin_slots _ = []

  -- which pages a load evicted, as its entries name them; any other answer leaves what was told before
  abbrev pub pin_gone : List ℕ → ℕ → Parts D → PinTurn D → List ℕ
  pin_gone before p old (Load job) = names_gone (page_at (state_of old) p).blocks old
  pin_gone before p old _ = before
