-- Which blocks the writes of a history store, and under which mark. The oldest entry is first; entries are numbered
-- from 0.
use Rattle.std.specs.Prelude.{◌≡◌, ◌^◌, ◌<◌, ℕ, ◌+◌, ◌*◌, ◌==◌, List, [], ◌∷◌, ◌++◌, Bool, true, false, if◌then◌else◌, Option, Some, None, length, take, slice_range}
use Rattle.std.specs.FinMap.{get}
use Rattle.reservation_tree.specs.declared.mark.Mark.{Mark}
use Rattle.reservation_tree.specs.Marks.{IsMark, mark_bytes}
use Rattle.pool_model.specs.declared.event.Event.{Event}
use Rattle.pool_model.specs.declared.event.Event.TheVariants.{StartWrite, WriteOk}
use Rattle.pool_model.specs.declared.entry.Entry.{Entry}
use Rattle.pool_model.specs.State.{Opening, Place, Flying, Loading, Clean, Evicted, Page, shown}
use Rattle.pool_model.specs.LookingBack.{Made, maker_of, content_of}
use Rattle.pool_model.specs.HistoryLaws.{made}
use Rattle.pool_model.specs.Legal.{state_after, IsLegal}

-- the number of the entry by which the page's last write began, and of the one by which its last write that ended
-- well began
pub record Writes : Type 0 where
  pub begun : Option ℕ
  pub ended : Option ℕ

-- what these numbers are after the entry with the number n
abbrev pub writes_after : ℕ → ℕ → Event → Writes → Writes
writes_after p n (StartWrite q) w = if q == p then record { begun = Some n; ended = w.ended } else w
writes_after p n (WriteOk q) w = if q == p then record { begun = w.begun; ended = w.begun } else w
writes_after p n _ w = w

abbrev pub writes_from : ℕ → Writes → ℕ → List Entry → Writes
writes_from p w n [] = w
writes_from p w n (e ∷ es) = writes_from p (writes_after p n e.event w) (n + 1) es

abbrev pub writes_of : List Entry → ℕ → Writes
writes_of h p = writes_from p (record { begun = None; ended = None }) 0 h

-- the number of the entry by which the page's last write that ended well began, if there is one
abbrev pub version_of : List Entry → ℕ → Option ℕ
version_of h p = (writes_of h p).ended

-- the block of this number, of so many bytes each
abbrev pub block_in : ℕ → ℕ → List ℕ → List ℕ
block_in len i bytes = slice_range bytes (i * len) (i * len + len)

-- a write of this history stores this block under this mark: the mark names the page, the entry by which the write
-- begins, and which block of the page's bytes before that entry it is
pub record IsStoredBlock (o : Opening) (h : List Entry) (mark : Mark) (block : List ℕ) : Type 0 where
  pub before : List Entry
  pub maker : ℕ
  pub later : List Entry
  pub begins : h ≡ before ++ record { maker = maker; event = StartWrite mark.name } ∷ later
  pub version : mark.version ≡ shown (length before)
  pub made : Made
  pub page : maker_of before mark.name ≡ Some made
  pub inside : mark.block < made.blocks
  pub is_mark : IsMark mark
  pub bytes : block ≡ block_in o.block_len mark.block (content_of o before mark.name)

-- these bytes are stored by a write of this history: a mark, and behind it its block
pub record IsStored (o : Opening) (h : List Entry) (bytes : List ℕ) : Type 0 where
  pub mark : Mark
  pub block : List ℕ
  pub stored : IsStoredBlock o h mark block
  pub is : bytes ≡ mark_bytes mark ++ block

-- while fewer entries stand than the greatest u64, what is stored under one mark is one block
abbrev pub MarksAreUnique : Type 0
MarksAreUnique = (o : Opening) (h : List Entry) → length h < 18446744073709551615 → (a b : List ℕ) → IsStored o h a → IsStored o h b
    → take 20 a ≡ take 20 b → a ≡ b

-- the page's bytes are in its slots, or on the way there or back
abbrev pub is_on_scratch : Place → Bool
is_on_scratch (Flying writer) = true
is_on_scratch Loading = true
is_on_scratch Clean = true
is_on_scratch Evicted = true
is_on_scratch _ = false

-- the page's bytes are in its slots, written whole
abbrev pub is_written : Place → Bool
is_written (Flying writer) = false
is_written place = is_on_scratch place

-- the page's last write began with the entry of this version, and with the bytes that the page has now; where they
-- are in its slots, that write ended well
pub record WasWritten (o : Opening) (h : List Entry) (p : ℕ) (place : Place) (version : ℕ) (made : Made) : Type 0 where
  pub before : List Entry
  pub maker : ℕ
  pub later : List Entry
  pub begins : h ≡ before ++ record { maker = maker; event = StartWrite p } ∷ later
  pub shows : version ≡ shown (length before)
  pub named : p < 18446744073709551615
  pub page : maker_of before p ≡ Some made
  pub content : content_of o before p ≡ content_of o h p
  pub begun : (writes_of h p).begun ≡ Some (length before)
  pub ended : is_written place ≡ true → version_of h p ≡ Some (length before)

abbrev pub LegalVersionsAreTold : Type 0
LegalVersionsAreTold = (o : Opening) (h : List Entry) → IsLegal o h → (p : ℕ) (x : Page) → get (state_after o h).pages p ≡ Some x
    → is_on_scratch x.place ≡ true → WasWritten o h p x.place x.version (made x)

-- while fewer entries stand than the greatest u64, what was stored under the mark of a page that is loaded is its
-- content
abbrev pub LegalMarksShowContent : Type 0
LegalMarksShowContent = (o : Opening) (h : List Entry) → IsLegal o h → length h < 18446744073709551615 → (p i : ℕ) (x : Page)
    → get (state_after o h).pages p ≡ Some x → is_on_scratch x.place ≡ true
    → i < 2 ^ 32 → (block : List ℕ) → IsStored o h (mark_bytes (record { name = p; version = x.version; block = i }) ++ block)
    → block ≡ block_in o.block_len i (content_of o h p)
