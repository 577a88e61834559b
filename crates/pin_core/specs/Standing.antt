-- For which histories the parts stand, and what entries make of them.
use Rattle.std.specs.Prelude.{ℕ, ◌≡◌, ◌<◌, ◌+◌, ◌*◌, ◌++◌, Bool, true, false, List, Option, Some, length, slice_range, slice_index_or}
use Rattle.std.specs.Bool.{⊤}
use Rattle.std.specs.FinMap.{get}
use Rattle.std.specs.List.{sum_by}
use Rattle.outside.specs.Slots.{told_block}
use Rattle.outside.specs.declared.slot.Slot.{Ghosts}
use Rattle.page_table.specs.declared.entry.Place.{Place as Spot}
use Rattle.page_table.specs.declared.entry.Place.TheVariants as spot
use Rattle.page_table.specs.declared.entry.Mem.{Mem}
use Rattle.page_table.specs.declared.entry.Mem.TheVariants as mem
use Rattle.page_table.specs.declared.entry.Entry.{Entry}
use Rattle.reservation_tree.specs.Total.{total}
use Rattle.pool_model.specs.declared.entry.Entry.{Entry as Event}
use Rattle.pool_model.specs.State.{Opening}
use Rattle.pool_model.specs.Legal.{IsLegal, state_after, run}
use Rattle.pool_model.specs.LookingBack.{content_of}
use Rattle.pin_core.specs.declared.kept.Kept.{Kept}
use Rattle.pin_core.specs.declared.kept.Kept.TheVariants as kept
use Rattle.pin_core.specs.declared.parts.Parts.{Parts}
use Rattle.pin_core.specs.parts.Keeping.{row_in}
use Rattle.pin_core.specs.Marking.{Form, form_of, front_of, under_of}
use Rattle.pin_core.specs.StateOf.{state_of}

-- a page's bytes are in its slots
abbrev pub is_stored : Spot → Bool
is_stored spot.Clean = true
is_stored spot.Evicted = true
is_stored _ = false

-- a buffer that is held has these bytes
abbrev pub MemHolds : List ℕ → Mem → Type 0
MemHolds bytes (mem.Held buf) = buf.bytes ≡ bytes
MemHolds bytes _ = ⊤

module _ {D : Type 0} (slot : Ghosts D) where
  -- each slot holds its block of these bytes, as far as slots tell: behind the mark of this page and version, where
  -- there is one
  abbrev pub AreHeld : Option ℕ → ℕ → ℕ → List D → List ℕ → Type 0
  AreHeld under name len row bytes = (i : ℕ) (d : D) → i < length row →
      slot.held (slice_index_or row i d) ≡ told_block (slot.tells (slice_index_or row i d)) (front_of under name i ++ slice_range bytes (i * len) (i * len + len))

  abbrev pub KeptHolds : Option ℕ → ℕ → ℕ → List ℕ → Spot → Kept D → Type 0
  KeptHolds under name len bytes at (kept.Held row) = is_stored at ≡ true → AreHeld under name len row bytes
  KeptHolds under name len bytes at _ = ⊤

  -- what the page has in memory and on scratch holds these bytes
  pub record Holds (form : Form) (name : ℕ) (bytes : List ℕ) (page : Entry (Kept D)) : Type 0 where
    pub mem : MemHolds bytes page.mem
    pub kept : KeptHolds (under_of form.marked page.version) name form.len bytes page.place page.scratch

  -- these parts stand for this history
  pub record StandsFor (o : Opening) (h : List Event) (v : Parts D) : Type 0 where
    pub legal : IsLegal o h
    pub state : state_of v ≡ state_after o h
    pub holds : (name : ℕ) (page : Entry (Kept D)) → get v.pages.entries name ≡ Some page → Holds (form_of v) name (content_of o h name) page

-- what all slots that aren't in a job count together, by any measure
abbrev pub slots_home : {D : Type 0} → (D → ℕ) → Parts D → ℕ
slots_home measure v = sum_by measure v.slots.free + total (λ _ page. sum_by measure (row_in page.scratch)) v.pages.entries

-- a call entered these entries, one after the other: the parts stand for what they stood for, followed by them;
-- the slots `gone` went into a job, those of `come` came back, and all others are as they were
pub record Enters {D : Type 0} (slot : Ghosts D) (events : List Event) (gone come : List D) (old new : Parts D) : Type 0 where
  pub state : state_of new ≡ run (state_of old) events
  pub stands : (o : Opening) (h : List Event) → StandsFor slot o h old → StandsFor slot o (h ++ events) new
  pub slots : (measure : D → ℕ) → slots_home measure new + sum_by measure gone ≡ slots_home measure old + sum_by measure come
