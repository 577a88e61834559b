-- What storing and loading do to the slots of a row, first slot first.
use Rattle.std.specs.Prelude.{◌≡◌, ◌≢◌, ℕ, ◌+◌, ◌<◌, ◌≤◌, leb, if◌then◌else◌, List, ◌++◌, Option, Some, None, Result, Ok, Err, OnOk, OnErr, ⊤, length, take, drop, slice_index_or}
use Rattle.std.specs.List.{sum_by}
use Rattle.outside.specs.Counts.{Rose, last_count}
use Rattle.outside.specs.Slots.{told_block, KeepsStrays, Gave, CountsStore}
use Rattle.outside.specs.declared.stream.Failed.{Failed}
use Rattle.outside.specs.declared.slot.Slot.{Ghosts}
use Rattle.block_arena.specs.Memory.{Buffer, block_of}
use Rattle.reservation_tree.specs.declared.mark.Mark.{Mark}
use Rattle.reservation_tree.specs.Marks.{IsMark, mark_bytes}
use Rattle.scratch_dev.specs.declared.marked.LoadErr.{LoadErr}
use Rattle.scratch_dev.specs.declared.marked.LoadErr.TheVariants as loading

-- how one call on a slot ended
abbrev pub Ended : Type 0
Ended = Result (Unit {0}) Failed

-- how a load ended that wants a mark
abbrev pub MarkedEnded : Type 0
MarkedEnded = Result (Unit {0}) LoadErr

-- the stores of a slot, by its count
abbrev pub stores_in : Option ℕ → ℕ
stores_in None = 0
stores_in (Some count) = count

-- 1 where a slot doesn't count its stores, or its count stands at its last value
abbrev pub uncounted_in : Option ℕ → ℕ
uncounted_in None = 1
uncounted_in (Some count) = if leb last_count count then 1 else 0

module _ {D : Type 0} (slot : Ghosts D) where
  -- a store of the block, that ended so, made of the slot `before` the slot `now`
  pub record IsStored (block : List ℕ) (ended : Ended) (before now : D) : Type 0 where
    pub held : OnOk ended (slot.held now ≡ told_block (slot.tells before) block)
    pub stores : CountsStore (slot.stores before) (slot.stores now) ended
    pub tells : slot.tells now ≡ slot.tells before
    pub strays : KeepsStrays (slot.strays before) (slot.strays now)
    pub never_falls : slot.faults before ≤ slot.faults now
    pub failed : OnErr ended (Rose (slot.faults before) (slot.faults now))

  -- a load, that ended so and showed these bytes, made of the slot `before` the slot `now`
  pub record IsLoaded (shown : List ℕ) (ended : Ended) (before now : D) : Type 0 where
    pub shows : OnOk ended (Gave (slot.held before) (slot.strays before) (slot.strays now) shown)
    pub held : slot.held now ≡ slot.held before
    pub stores : slot.stores now ≡ slot.stores before
    pub tells : slot.tells now ≡ slot.tells before
    pub strays : KeepsStrays (slot.strays before) (slot.strays now)
    pub never_falls : slot.faults before ≤ slot.faults now
    pub failed : OnErr ended (Rose (slot.faults before) (slot.faults now))

  -- a load of as many bytes as a mark and `len` more have gave a block with another mark than the wanted one
  pub record GaveOther (len : ℕ) (wanted found : Mark) (before now : D) : Type 0 where
    pub given : List ℕ
    pub loaded : IsLoaded given (Ok tt) before now
    pub long : length given ≡ 20 + len
    pub front : take 20 given ≡ mark_bytes found
    pub other : found ≢ wanted
    pub found_is : IsMark found
    pub wanted_is : IsMark wanted

  -- a load that wants this mark ended so: it showed this block behind the mark, or failed, or found another mark
  abbrev pub IsLoadedUnder : Mark → List ℕ → MarkedEnded → D → D → Type 0
  IsLoadedUnder mark shown (Ok _) before now = IsLoaded (mark_bytes mark ++ shown) (Ok tt) before now
  IsLoadedUnder mark shown (Err loading.Failed) before now = IsLoaded shown (Err (record {})) before now
  IsLoadedUnder mark shown (Err (loading.Stale wanted found)) before now = (wanted ≡ mark) × GaveOther (length shown) wanted found before now

  -- the counts of faults of a row, together
  abbrev pub faults_of : List D → ℕ
  faults_of row = sum_by slot.faults row

  -- the stores of a slot, and 1 where it doesn't count them to the end
  abbrev pub stores_at : D → ℕ
  stores_at d = stores_in (slot.stores d)

  abbrev pub uncounted : D → ℕ
  uncounted d = uncounted_in (slot.stores d)

  -- the slots count so many stores more, where all count them still; and none counts that didn't before
  pub record CountsStores (more : ℕ) (before now : List D) : Type 0 where
    pub short : sum_by uncounted before ≤ sum_by uncounted now
    pub stores : sum_by uncounted now ≡ 0 → sum_by stores_at before + more ≤ sum_by stores_at now

-- the mark of a page's block
abbrev pub mark_of : ℕ → ℕ → ℕ → Mark
mark_of name version i = record { name = name; version = version; block = i }

-- a block of a buffer, behind its mark
abbrev pub marked_block : ℕ → ℕ → Buffer → ℕ → List ℕ
marked_block name version buf i = mark_bytes (mark_of name version i) ++ block_of buf i

-- a count rose where a load failed, and not where another mark was found
abbrev pub RoseIfFailed : MarkedEnded → ℕ → ℕ → Type 0
RoseIfFailed (Err loading.Failed) before now = Rose before now
RoseIfFailed _ before now = ⊤

module _ {D E : Type 0} (Call : ℕ → Result (Unit {0}) E → D → D → Type 0) where
  -- the calls on the first n slots went well
  abbrev pub WentWell : ℕ → List D → List D → Type 0
  WentWell n before now = (i : ℕ) (d : D) → i < n → Call i (Ok tt) (slice_index_or before i d) (slice_index_or now i d)

  -- the call on the slot i failed, those before it went well, and there was none after it
  pub record FailedAt (i : ℕ) (failure : E) (before now : List D) : Type 0 where
    pub inside : i < length before
    pub earlier : WentWell i before now
    pub here : (d : D) → Call i (Err failure) (slice_index_or before i d) (slice_index_or now i d)
    pub later : drop (i + 1) now ≡ drop (i + 1) before

  -- a call on each slot, up to the first that failed
  abbrev pub Walked : Result (Unit {0}) E → List D → List D → Type 0
  Walked (Ok _) before now = WentWell (length before) before now
  Walked (Err failure) before now = (i : ℕ) × FailedAt i failure before now
