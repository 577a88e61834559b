-- What a job does to its slots, outside the pool's value.
use Rattle.std.specs.Prelude.{ℕ, ◌≡◌, ◌+◌, ◌<◌, ◌≤◌, leb, ◌&&◌, if◌then◌else◌, Bool, true, List, [], ◌∷◌, length, slice_index_or, ◌≢◌, Option, Some, None, ⊤, Ok, Err, false}
use Rattle.std.specs.List.{sum_by}
use Rattle.outside.specs.Counts.{last_count}
use Rattle.outside.specs.declared.slot.Slot.{Ghosts}
use Rattle.block_arena.specs.Memory.{Buffer, IsBufferOf, with_bytes}
use Rattle.pin_core.specs.declared.jobs.WriteJob.{WriteJob}
use Rattle.pin_core.specs.declared.jobs.ReadJob.{ReadJob}
use Rattle.pin_core.specs.declared.jobs.Stale.{Stale}
use Rattle.outside.specs.Slots.{Strays, GivesHeld}
use Rattle.scratch_dev.specs.Rows.{MarkedEnded, IsLoaded, IsLoadedUnder, mark_of}
use Rattle.scratch_dev.specs.declared.marked.LoadErr.TheVariants as loading

-- the buffer is whole, and there is a slot for each of its blocks
pub record IsFit {D : Type 0} (buf : Buffer) (row : List D) : Type 0 where
  pub whole : IsBufferOf buf.blocks buf.block_len buf
  pub slots : length row ≡ buf.blocks

-- each of these slots tells what it holds
abbrev pub AllTell : {D : Type 0} → Ghosts D → List D → Type 0
AllTell {D} slot row = (i : ℕ) (d : D) → i < length row → slot.tells (slice_index_or row i d) ≡ true

-- no load of these slots strayed between these two
abbrev pub AllGiveHeld : {D : Type 0} → Ghosts D → List D → List D → Type 0
AllGiveHeld {D} slot before now = (i : ℕ) (d : D) → i < length before → GivesHeld (slot.strays (slice_index_or before i d)) (slot.strays (slice_index_or now i d))

-- the mark that was wanted is that of one of the job's blocks, and another was found
pub record IsFoundOther (under : Option ℕ) (name count : ℕ) (stale : Stale) : Type 0 where
  pub version : under ≡ Some stale.wanted.version
  pub name_is : stale.wanted.name ≡ name
  pub block : stale.wanted.block < count
  pub other : stale.found ≢ stale.wanted

abbrev pub IfFoundOther : Option ℕ → ℕ → ℕ → Option Stale → Type 0
IfFoundOther under name count None = ⊤
IfFoundOther under name count (Some stale) = IsFoundOther under name count stale

-- a slot tells an empty list of further blocks
abbrev pub is_empty : List (List ℕ) → Bool
is_empty [] = true
is_empty (b ∷ blocks) = false

abbrev pub gives_back : Option Strays → Bool
gives_back None = false
gives_back (Some strays) = is_empty strays.further

-- the strays that a slot counts, and 1 where it doesn't count them to the end or doesn't tell what it holds
abbrev pub strays_in : Option Strays → ℕ
strays_in None = 0
strays_in (Some strays) = strays.count

abbrev pub unstrayed_in : Bool → Option Strays → ℕ
unstrayed_in false strays = 1
unstrayed_in true None = 1
unstrayed_in true (Some strays) = if leb last_count strays.count then 1 else 0

module _ {D : Type 0} (slot : Ghosts D) where
  -- a slot tells what it holds, and gives nothing else
  abbrev pub is_sure : D → Bool
  is_sure d = slot.tells d && gives_back (slot.strays d)

  -- a load of the block of this number ended so, and showed these bytes behind what stands in front of it
  abbrev pub IsLoadedAs : Option ℕ → ℕ → ℕ → List ℕ → MarkedEnded → D → D → Type 0
  IsLoadedAs (Some version) name i shown ended before now = IsLoadedUnder slot (mark_of name version i) shown ended before now
  IsLoadedAs None name i shown (Ok _) before now = IsLoaded slot shown (Ok tt) before now
  IsLoadedAs None name i shown (Err loading.Failed) before now = IsLoaded slot shown (Err (record {})) before now
  IsLoadedAs None name i shown (Err (loading.Stale wanted found)) before now = ⊥

  -- the load of this slot gave these bytes
  abbrev pub GaveBytes : List ℕ → D → D → Type 0
  GaveBytes bytes before now = IsLoaded slot bytes (Ok tt) before now

  -- 1 for a slot whose count of faults stands at its last value
  abbrev pub stuck : D → ℕ
  stuck d = if leb last_count (slot.faults d) then 1 else 0

  -- the slots count so many faults more, where none of these counts stands at its last value; and each that did still does
  pub record CountsFaults (more : ℕ) (before now : List D) : Type 0 where
    pub stays : sum_by stuck before ≤ sum_by stuck now
    pub faults : sum_by stuck now ≡ 0 → sum_by slot.faults before + more ≤ sum_by slot.faults now

  -- how many loads of a slot strayed, as far as it tells, and 1 where it doesn't tell that to the end, or what it holds
  abbrev pub strays_at : D → ℕ
  strays_at d = strays_in (slot.strays d)

  abbrev pub unstrayed : D → ℕ
  unstrayed d = unstrayed_in (slot.tells d) (slot.strays d)

  -- so many loads more of the slots strayed, where all tell that still; and none tells it that didn't before
  pub record CountsStrays (more : ℕ) (before now : List D) : Type 0 where
    pub loose : sum_by unstrayed before ≤ sum_by unstrayed now
    pub strays : sum_by unstrayed now ≡ 0 → sum_by strays_at before + more ≤ sum_by strays_at now

-- how the loads of a job ended: whether one failed, and which other mark was found
abbrev pub load_end : MarkedEnded → Bool × Option Stale
load_end (Ok _) = (false, None)
load_end (Err loading.Failed) = (true, None)
load_end (Err (loading.Stale wanted found)) = (false, Some (record { wanted = wanted; found = found }))

module _ {D : Type 0} where
  -- the job with other slots, and whether a store failed
  abbrev pub after_stores : List D → Bool → WriteJob D → WriteJob D
  after_stores row failed job = record job { row = row; failed = failed }

  -- the job with other bytes and slots, whether a load failed, and which other mark was found
  abbrev pub after_loads : List ℕ → List D → Bool → Option Stale → ReadJob D → ReadJob D
  after_loads bytes row failed stale job = record job { buf = with_bytes job.buf bytes; row = row; failed = failed; stale = stale }
